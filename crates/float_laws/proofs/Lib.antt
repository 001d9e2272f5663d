-- The definitions of `float` are what specs/ says, and nothing else is.
pub mod Others
pub mod Reach
pub mod Nearest
pub mod Choose
pub mod Whole
pub mod Casts
pub mod Narrow
pub mod Root
pub mod Sign
pub mod Bits
pub mod Examples
