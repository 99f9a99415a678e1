pub mod View
pub mod Shown
