-- The definitions of the calls: on a packed state, and on mnemonic lines.
pub mod Calls
pub mod LineCalls
