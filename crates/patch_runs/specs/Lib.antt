-- A run of two patches over stored words, and what is said of two of them.
pub mod Woven
