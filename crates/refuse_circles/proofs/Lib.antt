mod Any
mod Lowest
mod Marking
mod Shape
mod Touching
mod Twice
mod Seen
pub mod Places
