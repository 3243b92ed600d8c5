-- The laws of several ticks at once and of the longest duration; wrong answers beside right ones.
pub mod DeferredLaws
pub mod LongestLaws
pub mod Wrong
pub mod TimerLaws
