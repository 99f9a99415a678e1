pub mod Length
pub mod Named
pub mod Room
