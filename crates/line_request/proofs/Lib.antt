-- The laws of requests and answers, and of a line as it is kept; wrong answers.
pub mod RequestLaws
pub mod SessionLaws
pub mod Wrong
