pub mod Ready
pub mod Whole
