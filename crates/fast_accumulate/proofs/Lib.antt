-- The laws of the operations with a fast path.
pub mod PathLaws
pub mod EndLaws
pub mod Wrong
