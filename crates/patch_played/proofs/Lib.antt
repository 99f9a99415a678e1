pub mod Sights
pub mod Words
