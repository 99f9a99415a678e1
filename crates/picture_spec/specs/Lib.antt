-- The picture of an interface, as the original's `snapshot` has it: what it shows, its text, and the read that writes it.
pub mod Sketch
pub mod Text
pub mod Picture
