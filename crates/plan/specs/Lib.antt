-- The definitions that the contracts of plan cite, and the laws of an accepted plan for the crates above.
pub mod Checking
pub mod Loading
pub mod Accepted
pub mod Rows
pub mod Links
pub mod Kept
