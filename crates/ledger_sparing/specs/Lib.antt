-- What must be believed of the pop that spares the stops.
pub mod Sparing
-- Vocabulary of its theorems.
pub mod Drain
