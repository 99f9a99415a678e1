pub mod Texts
pub mod Seeing
pub mod Along
