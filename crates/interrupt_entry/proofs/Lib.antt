-- The laws of the stores of an entry.
pub mod EntryLaws
pub mod Wrong
