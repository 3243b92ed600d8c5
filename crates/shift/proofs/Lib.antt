-- The laws of the shifts, at every width, and rows of known cases.
pub mod ShiftLaws
pub mod SignLaws
pub mod CountLaws
pub mod Rows
pub mod Wrong
