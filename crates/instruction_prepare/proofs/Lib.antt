-- The laws of instructions up to their accesses.
pub mod PrepareLaws
pub mod Wrong
