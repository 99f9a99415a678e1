pub mod Trees
pub mod Lowers
pub mod Along
pub mod Values
