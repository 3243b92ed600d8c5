-- The laws of what an operation needs, of form numbers, and rows of wrong answers.
pub mod NeedsLaws
pub mod NumberLaws
pub mod Wrong
