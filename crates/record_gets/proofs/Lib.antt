pub mod Whole
pub mod Finding
pub mod Writing
pub mod Getting
pub mod Stood
pub mod Laws
pub mod Examples
