pub mod Places
pub mod Spots
