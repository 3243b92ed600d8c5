-- The definition of reset.
pub mod Reset
