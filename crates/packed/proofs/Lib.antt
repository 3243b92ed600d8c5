-- The laws of the packed state; a known state, computed; wrong answers.
pub mod PackLaws
pub mod Rows
pub mod Wrong
