pub mod Same
pub mod Plays
