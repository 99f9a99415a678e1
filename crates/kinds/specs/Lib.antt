pub mod Names
pub mod States
pub mod Obstacles
