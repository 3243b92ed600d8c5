-- The laws of sign changes, comparison and conversion of floats, and known results.
pub mod SignLaws
pub mod CompareLaws
pub mod ConvertLaws
pub mod Rows
pub mod Wrong
