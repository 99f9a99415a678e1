pub mod Putting
pub mod Running
pub mod Ending
pub mod Once
