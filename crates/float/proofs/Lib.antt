-- Laws on plain values that the functions' proofs cite.
pub mod Nans  -- the one NaN
pub mod Signs  -- the sign's bit
pub mod Digits  -- a shift by the leading zeros
pub mod Quotients  -- the whole numbers about a fraction
pub mod Wholes  -- floor, ceil, round
pub mod Saturation  -- the saturating casts
pub mod Rounded  -- rounding by digits
pub mod Narrowing  -- to an f32
pub mod Squares  -- squares and Newton's step
pub mod Scaling  -- products with powers of two
pub mod WholeRoot  -- the definition's whole part of a root
pub mod RootRounded  -- the definition's rounding of a root
pub mod RootPatterns  -- the root of each pattern
