pub mod Finding
pub mod Rising
pub mod Weighing
