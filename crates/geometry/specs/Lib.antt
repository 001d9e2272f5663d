-- What a lane's polyline is and what is asked of it.
pub mod Polyline
pub mod Order
pub mod Partition
pub mod Locate
pub mod Project
pub mod Over
pub mod PolylineLaws
pub mod LocateLaws
pub mod ProjectLaws
pub mod Cases
