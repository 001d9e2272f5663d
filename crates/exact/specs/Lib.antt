-- Exact values of floats: what is proved of them once, for every later crate. In the order of the modules (from the errors of rounding on, the laws
-- stand in proofs/, under the same names):
-- * A float is compared, added, multiplied and divided as the fraction that it equals (Fractions: `lt_values` .. `div_values`).
-- * A pattern has the value of `units_of` units and a value its pattern back, in f32 and f64, subnormals included (Patterns:
--   `bits_value`, `to_bits_units`, `pattern_of`); the order of patterns is that of values (`units_lt`).
-- * Two values of a format that equal one fraction are one float (`one_value`), which is what that fraction rounds to (`round_self`).
-- * A finite f32 is an integer number of units of 2 ^ -149 (Values: `val`, `mag_is`).
-- * x < y, x = y and x ≤ y of f32 are those of the values, so -0 equals 0 (Order).
-- * Rounding is monotone (Monotone: `round_mono_signed`), and bounds by an f32 survive it (`upper_bound`, `lower_bound`).
-- * Where the result is finite, the error of a sum and of a difference is at most 2 ^ -24 of the exact result; that of a product and of a
--   quotient by a number above zero too, and half a unit (Arithmetic: `add_err`, `sub_err`, `mul_err`, `div_err`).
-- * Sums of values that are not negative stop growing, but are monotone, no smaller than the first summand, and bounded (Sums).

-- small facts on natural numbers
pub mod Naturals
-- integers for `omega`
pub mod Integers
-- equations of integers, solved
pub mod Ring
-- inequations of integers: products, squares, absolute values, vectors
pub mod Inequalities
-- which numbers of units are values of a format
pub mod Fits
-- bit patterns and values
pub mod Patterns
-- floats as fractions
pub mod Fractions
-- what one rounding does, in natural numbers
pub mod Rounding
-- the value of a finite f32
pub mod Values
-- comparison as order of values
pub mod Order
-- rounding keeps the order
pub mod Monotone
-- the facts of one rounded operation in one record
pub mod Steps
-- sums that stop growing: costs and lengths
pub mod Sums
-- worked values
pub mod Examples
