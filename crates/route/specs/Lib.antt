-- What a route query answers, over the plan's records and over its rows, and laws of its steps.
pub mod Route
pub mod Structs
pub mod PathRows
pub mod Steps
pub mod InPlan
pub mod Changes
pub mod Cases
