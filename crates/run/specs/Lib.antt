-- The definition of calls of `run` one after another, and property 3 of what they return and leave.
pub mod Calls
