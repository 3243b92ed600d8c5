-- The definition of floating point multiply.
pub mod Multiply
