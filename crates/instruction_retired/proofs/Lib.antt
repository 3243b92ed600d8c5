-- The laws of what an instruction comes to.
pub mod RetiredLaws
pub mod ActLaws
pub mod Wrong
