pub mod Linked
pub mod Texts
pub mod Nexts
