pub mod Read
pub mod Wrote
