-- The laws of reset; wrong answers.
pub mod FillLaws
pub mod Wrong
