-- The laws of fixed point arithmetic.
pub mod NarrowLaws
pub mod SumLaws
pub mod SumLines
pub mod FixedRows
pub mod Wrong
