pub mod Arrivals
pub mod Words
pub mod Counting
