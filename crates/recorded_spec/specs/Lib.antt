pub mod Recorded
pub mod Sums
pub mod Grown
