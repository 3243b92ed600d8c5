-- The definitions of floating point add and subtract.
pub mod Add
