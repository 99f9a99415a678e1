pub mod Counts
pub mod Rests
pub mod Measuring
pub mod Plains
pub mod Members
