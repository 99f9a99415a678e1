pub mod Present
pub mod Shown
