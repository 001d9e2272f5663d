-- What the nearest lane of a plan is, and laws for those who ask for it over a plan's rows.
pub mod Nearest
pub mod Answer
pub mod PlanLanes
pub mod Examples
