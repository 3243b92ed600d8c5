-- Known texts, and wrong answers.
pub mod Rows
pub mod Wrong
