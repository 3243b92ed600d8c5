-- The laws of floating point add and subtract, and known results.
pub mod AddLaws
pub mod Rows
pub mod Wrong
