-- The printed form of answers, and laws of it.
pub mod Bytes
pub mod Page
pub mod Decimal
pub mod Hex
pub mod Each
pub mod Fronts
pub mod Numerals
pub mod Counting
pub mod Lines
pub mod Cases
