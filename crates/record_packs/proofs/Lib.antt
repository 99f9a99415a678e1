pub mod Stores
pub mod Filling
pub mod Moving
