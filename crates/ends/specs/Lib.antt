-- Where branches end.
pub mod Ends
pub mod Rounded
pub mod Held
pub mod EndLaws
pub mod Cases
