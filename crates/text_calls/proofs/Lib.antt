pub mod Turning
pub mod Members
pub mod Reading
