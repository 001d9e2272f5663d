-- The definitions that the contracts of plan_find cite, and what they mean for a loaded plan.
pub mod FirstRow
pub mod Lookup
