-- The definitions of input lines, of the state that they set, and of a case's text.
pub mod Kinds
pub mod Lent
pub mod Lines
pub mod Fields
pub mod Texts
