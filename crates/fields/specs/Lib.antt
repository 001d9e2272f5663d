-- The definitions that the contracts of fields cite.
pub mod Fields
pub mod Cases
