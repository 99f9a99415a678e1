pub mod Cuts
pub mod Ends
pub mod Steps
pub mod States
