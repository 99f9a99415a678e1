pub mod Values
pub mod Fields
pub mod Digits
pub mod Signs
pub mod Integers
pub mod Writes
pub mod Back
pub mod Widths
