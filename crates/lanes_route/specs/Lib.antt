-- The public call: what it finds in the tables after opening, and that it keeps its promise.
pub mod Route
