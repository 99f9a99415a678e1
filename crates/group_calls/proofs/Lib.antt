pub mod Turns
pub mod Answering
pub mod One
