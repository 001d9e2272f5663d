-- What C takes and gives in place of an Option.
pub mod ForC
pub mod Cases
