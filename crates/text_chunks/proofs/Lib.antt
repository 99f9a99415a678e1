pub mod Chunks
pub mod Feeding
pub mod Answering
pub mod Circles
pub mod Going
pub mod Opening
pub mod Opened
pub mod Choices
