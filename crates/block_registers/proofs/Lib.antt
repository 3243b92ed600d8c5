-- The laws of the operations on blocks.
pub mod BlockLaws
pub mod Wrong
