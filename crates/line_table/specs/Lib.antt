-- The definitions of the boxes by first words and by mnemonics, and of the table's entries.
pub mod Boxes
pub mod Entries
