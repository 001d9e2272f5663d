-- The proof of what is promised of the route query: the lanes of an accepted plan, and the theorem.
pub mod Lanes
pub mod Theorem
