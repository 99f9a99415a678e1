pub mod Pairs
pub mod Choices
pub mod Own
pub mod Both
