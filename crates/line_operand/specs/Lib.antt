-- The definitions of operands in mnemonic lines: decimal numbers read, places of fields, shapes of operands, operands spelt and read.
pub mod Numerals
pub mod Shapes
pub mod Operands
