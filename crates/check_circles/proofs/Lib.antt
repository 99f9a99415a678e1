pub mod Touching
pub mod Arriving
pub mod Standing
pub mod Circling
