-- The definitions of the MIL-STD-1750A's instructions and commands, and which steps leave timer B, for the old rule of the timers.
pub mod Fields
pub mod Addressing
pub mod Accesses
pub mod Effects
pub mod Words
pub mod Blocks
pub mod Integers
pub mod Floats
pub mod Execute
pub mod Commands
pub mod Mil1750
pub mod OldTimers
