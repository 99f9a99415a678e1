pub mod Laying
pub mod Circles
pub mod Doing
