-- Laws of grids and rings, which the search over a grid stands on.
pub mod Buckets
pub mod Sides
pub mod Runs
pub mod Rings
