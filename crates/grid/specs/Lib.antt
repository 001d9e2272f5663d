-- What grid.rs answers.
pub mod Grid
pub mod Ring
pub mod Examples
