pub mod Pops
pub mod Drains
pub mod Agrees
