pub mod Below
pub mod Links
pub mod Width
