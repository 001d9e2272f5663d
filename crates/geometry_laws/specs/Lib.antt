-- What is proved of the polylines of an accepted plan.
pub mod Range
pub mod Cases
