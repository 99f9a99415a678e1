pub mod Same
pub mod Drained
