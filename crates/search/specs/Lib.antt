-- The search: its definition, the same over a plan's tables in f32, and laws of its loops.
pub mod Search
pub mod LaneGraph
pub mod Structs
pub mod Loops
pub mod Cases
