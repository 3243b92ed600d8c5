-- The definitions of the program's text.
pub mod Report
