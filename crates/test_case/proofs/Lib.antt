-- The laws of a case, of its text and of a line as it is kept; known readings; wrong answers.
pub mod TextLaws
pub mod CaseLaws
pub mod SessionLaws
pub mod Rows
pub mod Wrong
