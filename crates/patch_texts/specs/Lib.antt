-- Lines by numbers, and what is read of their answers; and what is said of two inputs.
pub mod Page
pub mod Inputs
