-- The definition of what the program prints.
pub mod Printed
