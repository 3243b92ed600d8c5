-- The laws of an image's bodies and of loading, and rows of known images; wrong answers.
pub mod BodyLaws
pub mod LoadLaws
pub mod Rows
pub mod Wrong
