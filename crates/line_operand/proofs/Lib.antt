-- The laws of numbers as text, of fields at their places, of one operand and of all operands of a line; wrong answers.
pub mod NumeralLaws
pub mod PlaceLaws
pub mod OperandLaws
pub mod RowLaws
pub mod Wrong
