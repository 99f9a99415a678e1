pub mod Pieces
pub mod Serials
pub mod Lines
