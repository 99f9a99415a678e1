pub mod Naming
pub mod Circles
