-- Known instructions and chosen cases of the MIL-STD-1750A; what an image prints that leaves timer B is as by the old rule of the timers.
pub mod OpenWords
pub mod OpenFloats
pub mod OpenDecoder
pub mod OpenInstructions
pub mod Known
pub mod Cases
pub mod OldTimers
