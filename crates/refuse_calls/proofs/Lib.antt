pub mod Firsts
pub mod Lengths
pub mod Units
pub mod Named
pub mod Fuses
pub mod Rooms
pub mod Belows
