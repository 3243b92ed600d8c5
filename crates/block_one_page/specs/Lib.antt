-- The definition of words that lie one after another.
pub mod Extents
