pub mod Complements
pub mod Putting
