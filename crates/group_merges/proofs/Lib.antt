pub mod Fronts
pub mod Passes
pub mod Turning
pub mod Answers
