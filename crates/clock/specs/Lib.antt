-- The definitions of deferred ticks and of the longest duration.
pub mod Deferred
