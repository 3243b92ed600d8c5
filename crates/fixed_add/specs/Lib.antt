-- The definitions of fixed point arithmetic.
pub mod Fixed
