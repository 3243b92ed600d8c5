-- The definitions of what an operation does.
pub mod Work
