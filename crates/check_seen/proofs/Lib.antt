pub mod Looking
pub mod Noting
