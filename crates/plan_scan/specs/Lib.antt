-- The definitions that the contracts of plan_scan cite, and their laws.
pub mod Ranges
pub mod Sizes
pub mod Limits
pub mod Scan
pub mod Parts
