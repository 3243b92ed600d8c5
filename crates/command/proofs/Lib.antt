-- The laws of commands.
pub mod CommandLaws
pub mod Wrong
