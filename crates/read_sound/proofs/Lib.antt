pub mod Numbers
pub mod Saying
pub mod Slots
