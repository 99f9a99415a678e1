pub mod Stores
pub mod Seen
pub mod Slides
pub mod Lengths
