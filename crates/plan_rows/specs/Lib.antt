-- The definitions that the contracts of plan_rows cite, and laws that its proofs cite.
pub mod Counted
pub mod Runs
