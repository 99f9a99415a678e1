pub mod Slices
pub mod Adding
pub mod Walking
pub mod Trailers
