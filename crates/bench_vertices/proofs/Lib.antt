pub mod Circling
pub mod Named
