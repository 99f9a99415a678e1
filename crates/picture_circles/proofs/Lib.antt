pub mod Members
pub mod Going
