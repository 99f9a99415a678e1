pub mod Pads
pub mod Telling
pub mod Reaching
pub mod Back
pub mod Tells
