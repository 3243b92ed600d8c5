-- The laws of floating point multiply.
pub mod ProductLaws
pub mod Rows
pub mod Wrong
