pub mod Lists
pub mod Lay
pub mod Loops
pub mod View
pub mod Asking
pub mod Only
