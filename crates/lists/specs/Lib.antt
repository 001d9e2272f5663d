-- Lists that are written in part.
pub mod Over
pub mod Rows
pub mod Filling
