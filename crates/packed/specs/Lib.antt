-- The definitions of the packed state.
pub mod Packed
