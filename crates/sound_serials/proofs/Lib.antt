pub mod Differing
pub mod Marking
