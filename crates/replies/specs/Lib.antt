-- What `plan-run` prints of a file, whole and piece by piece, and laws of it.
pub mod Printed
pub mod Pieces
pub mod OverPlan
pub mod Fits
pub mod Lent
pub mod Replied
pub mod Written
pub mod Ending
pub mod Cases
