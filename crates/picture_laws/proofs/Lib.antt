pub mod Codes
pub mod Determines
