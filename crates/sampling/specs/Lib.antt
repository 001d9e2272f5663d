-- The points of a route: what is sampled along its lanes, what of it is kept, and laws of the loops.
pub mod Kept
pub mod Sampling
pub mod Structs
pub mod Spacing
pub mod Passes
pub mod Cases
