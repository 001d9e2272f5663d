-- How the rows of a plan's tables are read.
pub mod Rows
