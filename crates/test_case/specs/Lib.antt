-- The definitions of a case and of the reading that makes it.
pub mod Case
pub mod Session
