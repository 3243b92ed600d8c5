-- The laws of the questions before a run, and property 3 of what calls of `run` return and leave; wrong answers.
pub mod AskLaws
pub mod Isolated
pub mod Wrong
