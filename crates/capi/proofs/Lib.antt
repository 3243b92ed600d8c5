-- The laws of the two calls; wrong answers.
pub mod CallLaws
pub mod LineCallLaws
pub mod Wrong
