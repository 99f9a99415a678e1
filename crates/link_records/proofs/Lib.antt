pub mod Counting
pub mod Once
