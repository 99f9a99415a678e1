pub mod Shown
