-- Demand 3: what is promised of the route query.
pub mod Promise
