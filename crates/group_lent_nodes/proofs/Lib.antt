pub mod Named
pub mod Turns
