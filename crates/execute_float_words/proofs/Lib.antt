-- The laws of floating point operations.
pub mod FloatEffects
pub mod Wrong
