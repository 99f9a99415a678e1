pub mod Running
pub mod Fused
pub mod Once
pub mod NeverWords
pub mod Afloat
