-- A bench in an engine; everything that a bench can be asked; what two runs in the two engines are said to have alike.
pub mod Engines
pub mod Questions
pub mod Alike
