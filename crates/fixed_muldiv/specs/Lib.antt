-- The definitions of fixed point multiply and divide.
pub mod Divide
