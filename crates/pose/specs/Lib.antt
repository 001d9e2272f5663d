-- The pose on a lane of a plan, and how its rows give it.
pub mod Lanes
pub mod Laws
pub mod Cases
