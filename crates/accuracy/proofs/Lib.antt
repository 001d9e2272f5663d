-- The proof of the taped distance, from below. docs/ACCURACY.md has the argument in words.

-- exact vectors, coordinates in range
pub mod Vectors
pub mod Coordinates
-- rounded squares and inner products
pub mod Distance
pub mod DotProduct
-- one straight piece: the exact parabola, the residual in f32, the fraction, the place at it
pub mod Projection
pub mod Residual
pub mod Fraction
pub mod RoundedPlace
pub mod Segment
-- a run of pieces, and its box
pub mod Span
pub mod MinMax
pub mod Box
-- the grid: buckets, its size, the stop rule
pub mod Cells
pub mod GridSize
pub mod Stop
-- choosing by rounded squares
pub mod Choice
-- the search: rings, visits, the index
pub mod Rings
pub mod Search
pub mod Index
-- what the search leaves of each span, and the tape
pub mod Bound
pub mod Tape
pub mod Theorem
-- finite points far away: an answer all the same
pub mod Numbers
pub mod Everywhere
-- the hypotheses can be met, and the conclusion rules out the first span as every nearest lane
pub mod Example
