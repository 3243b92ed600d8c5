-- The definitions of the words read, and of one store.
pub mod Gathers
