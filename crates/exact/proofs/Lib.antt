-- The laws that rest on those of specs/, in the order of the modules: what one rounding does to a value, and what follows for the operations and for
-- sums. They stand here and not in specs/, since must-fail edits break the laws beneath them.
-- the error of one rounding
pub mod Rounding
-- what `round` makes of a fraction
pub mod Values
-- comparison as order of values
pub mod Order
-- rounding keeps the order
pub mod Monotone
-- the operations as rounded fractions, their bounds and errors
pub mod Arithmetic
-- the facts of one rounded operation in one record
pub mod Steps
-- sums that stop growing: costs and lengths
pub mod Sums
