-- The laws of the words read and stored.
pub mod GatherLaws
pub mod Wrong
