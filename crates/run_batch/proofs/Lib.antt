-- The laws of steps.
pub mod StepLaws
