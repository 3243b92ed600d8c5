-- The definition of images and of loading them.
pub mod Image
