pub mod Judging
pub mod Once
pub mod Refused
