pub mod Rows
pub mod Level
