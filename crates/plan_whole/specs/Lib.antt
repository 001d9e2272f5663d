-- The definitions that the contracts of plan_whole cite, and their laws.
pub mod Keys
pub mod Which
pub mod ByNumber
pub mod Missing
pub mod Whole
