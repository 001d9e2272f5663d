-- The promise of the nearest lane, of an accepted plan.
pub mod Promise
