pub mod Refused
pub mod Outcome
pub mod Answered
