-- The laws of the choice of an operation.
pub mod OrdinaryLaws
pub mod WordsLaws
pub mod Wrong
