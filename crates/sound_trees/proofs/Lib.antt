pub mod Belows
pub mod Codings
pub mod Rows
pub mod Framing
pub mod Widths
