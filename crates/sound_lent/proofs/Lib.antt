pub mod Asking
pub mod Ledger
