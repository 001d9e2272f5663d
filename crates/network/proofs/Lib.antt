-- Laws of the tables and of the walk.
pub mod Cut
pub mod Adding
pub mod Index
pub mod Walk
