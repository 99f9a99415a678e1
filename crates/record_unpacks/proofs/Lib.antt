pub mod Steps
pub mod Filling
pub mod Holding
pub mod Laws
