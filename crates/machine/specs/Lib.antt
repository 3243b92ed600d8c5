-- The definitions of the processor for any instruction set: its state, faults, one step, timelines, runs, the isolation of two machines, and the old rule of the timers.
pub mod State
pub mod Faults
pub mod Machine
pub mod Instructions
pub mod Entries
pub mod Step
pub mod Timelines
pub mod Runs
pub mod Isolation
pub mod OldTimers
