mod Rows
mod Circles
mod Speeds
mod Seeing
mod Nodes
mod Parts
mod Canonical
mod Tested
mod Passing
pub mod Theorem
