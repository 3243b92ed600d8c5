-- What a segment of a batch of steps comes to.
pub mod Batch
