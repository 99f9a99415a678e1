pub mod Lying
pub mod Filling
pub mod Reading
