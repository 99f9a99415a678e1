pub mod Sparing
pub mod Only
