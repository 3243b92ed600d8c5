-- The definitions of the operands of floating point operations.
pub mod Operands
