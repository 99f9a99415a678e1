pub mod Copies
pub mod Pairs
pub mod Takes
pub mod Appends
pub mod Rounds
pub mod Extending
