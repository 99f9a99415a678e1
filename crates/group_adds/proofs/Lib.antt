pub mod Lengths
pub mod Places
pub mod Rooms
pub mod Bytes
pub mod Adding
pub mod Only
