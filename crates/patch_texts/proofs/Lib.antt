pub mod Firm
pub mod Twins
pub mod Kin
pub mod Texts
pub mod Example
