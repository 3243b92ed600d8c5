-- The laws of the questions to an image; wrong answers.
pub mod Opened
pub mod QuestionLaws
pub mod SoundLaws
pub mod ShareLaws
pub mod Wrong
