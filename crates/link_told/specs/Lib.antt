pub mod Answers
pub mod Circles
