-- Branches in flight along the lanes.
pub mod Tables
pub mod Branches
pub mod Front
pub mod Held
pub mod Links
pub mod HeldLaws
pub mod BranchLaws
pub mod FrontLaws
pub mod Cases
