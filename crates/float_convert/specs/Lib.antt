-- The definitions of sign changes, comparison and conversion of floats.
pub mod Convert
