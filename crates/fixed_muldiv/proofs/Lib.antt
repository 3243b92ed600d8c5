-- The laws of fixed point multiply and divide.
pub mod PartsLaws
pub mod ProductLaws
pub mod QuotientLaws
pub mod ProductLines
pub mod QuotientLines
pub mod DivideRows
pub mod Wrong
