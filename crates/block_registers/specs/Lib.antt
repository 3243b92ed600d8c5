-- The definitions of the operations on blocks' code.
pub mod Operation
