-- The laws of text after text in a list of bytes, and of a line that is kept; what std and this repository call decimal; known numbers, computed; wrong answers.
pub mod WroteLaws
pub mod KeptLaws
pub mod DecimalLaws
pub mod Rows
pub mod Wrong
