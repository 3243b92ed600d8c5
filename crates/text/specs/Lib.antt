-- The definitions of text in a buffer, of numbers as text, and of the first bytes of a line.
pub mod Texts
pub mod FirstBytes
