pub mod Looking
pub mod Walking
