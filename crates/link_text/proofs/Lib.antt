pub mod Lending
pub mod Once
