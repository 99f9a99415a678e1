pub mod Windows
pub mod Passing
pub mod Reaching
pub mod Limits
