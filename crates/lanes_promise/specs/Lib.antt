-- Demand 3 of the public call `route`.
pub mod Promise
