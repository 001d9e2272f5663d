-- The plan file of document 01: what its bytes mean, the numbers of those that mean no plan, the tables of a plan.
pub mod Records
pub mod Plan
pub mod Tables
pub mod Reading
pub mod Refusals
pub mod Kinds
pub mod Queries
pub mod Keys
pub mod Decodes
pub mod Laws
pub mod Lookup
pub mod Roles
pub mod Rows
pub mod Samples
pub mod Examples
pub mod Cases
