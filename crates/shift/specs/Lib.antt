-- The definitions of the shifts.
pub mod Shift
