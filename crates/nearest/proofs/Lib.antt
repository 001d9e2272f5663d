-- An index that was built is one to ask.
pub mod Asking
