pub mod Tops
pub mod Taking
pub mod Only
