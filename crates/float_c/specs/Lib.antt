-- What the contracts of `float_c` cite beside those of `float`.
pub mod Number
