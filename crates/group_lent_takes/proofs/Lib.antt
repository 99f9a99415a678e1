pub mod Asking
pub mod Adding
pub mod Taking
