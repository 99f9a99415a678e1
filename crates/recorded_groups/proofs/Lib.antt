pub mod Positions
pub mod Counts
