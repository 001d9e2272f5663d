-- What the definitions of `float` mean, said without working them out; and laws of comparisons.
pub mod Nearest
pub mod Root
pub mod Whole
pub mod Casts
pub mod Choose
pub mod Sign
pub mod Compare
