pub mod Asks
pub mod Runs
pub mod Recorded
pub mod Files
pub mod Sessions
pub mod Stored
pub mod Programs
