pub mod Fuses
pub mod Fusing
pub mod Emptying
pub mod Wiping
pub mod Cleared
pub mod Beginning
