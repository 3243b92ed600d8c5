-- The laws of names and boxes, of the table's entries and their places, and of the table; wrong answers.
pub mod NameLaws
pub mod BoxLaws
pub mod EntryLaws
pub mod LetterLaws
pub mod TableLaws
pub mod Wrong
