-- The laws of what the program prints, and known inputs; wrong answers.
pub mod PrintedLaws
pub mod Rows
pub mod Wrong
