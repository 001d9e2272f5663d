-- The tables of arc lengths and tangents of all lanes.
pub mod Rows
pub mod RowsLaws
