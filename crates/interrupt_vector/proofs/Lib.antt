-- The laws of the words that an entry reads.
pub mod VectorLaws
pub mod Wrong
