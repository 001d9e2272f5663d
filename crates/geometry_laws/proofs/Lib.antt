-- Lengths, arc lengths and projections on polylines whose coordinates lie in range.
pub mod Lengths
pub mod Cumulative
pub mod Projected
