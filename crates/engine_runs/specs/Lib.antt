-- What words can be asked, a run of public calls, and what is said of two of them in the two engines.
pub mod Asked
pub mod Session
pub mod Alike
pub mod Stored
