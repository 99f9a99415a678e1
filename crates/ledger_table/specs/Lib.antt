pub mod Talk
pub mod Replay
pub mod Quick
pub mod Broken
pub mod Examples
