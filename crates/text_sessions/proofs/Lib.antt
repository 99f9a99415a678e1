pub mod Session
pub mod Opening
pub mod Inputs
