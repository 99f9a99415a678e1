pub mod Verdicts
pub mod Once
pub mod One
