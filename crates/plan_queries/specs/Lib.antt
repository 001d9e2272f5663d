-- Laws of the walk over a file's queries.
pub mod Seeking
pub mod Followed
