-- The definitions that the contracts of `coords` cite, and worked values of them.
pub mod Coords
pub mod Examples
