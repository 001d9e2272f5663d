-- The definitions that the contracts of plan_links cite, and their laws.
pub mod Chains
pub mod Groups
pub mod Kept
pub mod Linked
