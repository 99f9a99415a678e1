pub mod Pairs
pub mod Appends
pub mod Extending
pub mod Only
