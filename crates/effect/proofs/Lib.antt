-- The rows of wrong answers.
pub mod Wrong
