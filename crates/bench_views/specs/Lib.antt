pub mod Tab
pub mod Records
pub mod View
pub mod Canon
pub mod Fit
pub mod Given
