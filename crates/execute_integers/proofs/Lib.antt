-- The laws of integer operations.
pub mod Wrong
