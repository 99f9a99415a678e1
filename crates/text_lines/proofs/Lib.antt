pub mod Follow
pub mod Serials
pub mod Whole
pub mod Told
pub mod Examples
pub mod Spaces
pub mod Texts
pub mod Spelling
