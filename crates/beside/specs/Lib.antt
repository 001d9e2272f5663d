-- The lane beside a lane position.
pub mod Seated
pub mod Sides
pub mod Beside
pub mod BesideLaws
pub mod InPlan
pub mod InPlanLaws
pub mod Cases
