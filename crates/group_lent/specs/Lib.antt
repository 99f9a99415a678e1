pub mod Forms
pub mod Groups
pub mod Place
pub mod Moves
