pub mod Nexts
pub mod Presence
pub mod Walking
pub mod Saying
