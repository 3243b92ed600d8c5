-- The definition of floating point divide.
pub mod Divide
