-- The definitions of the operations with a fast path.
pub mod Paths
pub mod Ended
