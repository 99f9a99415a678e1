pub mod Newlines
pub mod Sizes
pub mod Weighing
