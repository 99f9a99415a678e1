pub mod Kept
pub mod Raising
