-- Document 01's cases marked P: the files, what is asked of them, and the table.
pub mod Files
pub mod Asking
pub mod Table
