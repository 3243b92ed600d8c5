-- The laws of addressing modes by ranges of the form number, and the rows of wrong answers.
pub mod ModeLaws
pub mod Wrong
