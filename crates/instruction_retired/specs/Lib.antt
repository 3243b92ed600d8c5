-- What an instruction comes to, and what it may leave as it was.
pub mod Settled
