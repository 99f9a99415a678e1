pub mod Kth
pub mod Words
pub mod Gets
