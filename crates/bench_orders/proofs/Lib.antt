pub mod Trees
pub mod Listing
pub mod Counting
pub mod Listed
