pub mod Seeking
pub mod Scanning
