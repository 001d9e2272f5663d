-- The lanes of an accepted plan lie in the range, and so the taped distance holds.
pub mod Ranges
pub mod Theorem
