-- The laws of floating point divide.
pub mod QuotientLaws
pub mod Rows
pub mod Wrong
