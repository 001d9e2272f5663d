-- The tables that a public call is lent, and what they hold on return.
pub mod LaneTables
pub mod Lines
pub mod Kept
pub mod Opening
pub mod Cases
