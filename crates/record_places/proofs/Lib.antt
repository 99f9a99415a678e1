pub mod Kth
