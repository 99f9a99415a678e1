pub mod Find
pub mod Outer
