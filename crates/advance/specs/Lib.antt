-- Moving a lane position along the lanes.
pub mod Advance
pub mod QueryLaws
pub mod Counted
pub mod InPlan
pub mod Linked
pub mod InPlanLaws
pub mod Cases
