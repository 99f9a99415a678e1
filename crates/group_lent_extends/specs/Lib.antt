pub mod Extends
pub mod Stages
