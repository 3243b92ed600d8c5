-- Known lines, computed; wrong answers.
pub mod Rows
pub mod Wrong
