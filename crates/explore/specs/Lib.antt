-- Branches taken on along the lanes until none is left.
pub mod Explore
pub mod Held
pub mod RunLaws
pub mod Cases
