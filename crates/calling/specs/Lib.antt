-- A call that opens the plan and then answers from the tables keeps its promise.
pub mod Calling
