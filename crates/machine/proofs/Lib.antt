-- The laws of the processor, of durations and of the old rule of the timers, property 3 with machines that it compares, and rows of known cases.
pub mod MachineLaws
pub mod InterruptLaws
pub mod SameLaws
pub mod InstructionLaws
pub mod TimelineLaws
pub mod RunLaws
pub mod DurationLaws
pub mod StepLaws
pub mod OldTimerLaws
pub mod Isolation
pub mod Opened
pub mod Samples
pub mod Differing
pub mod Rows
pub mod Wrong
