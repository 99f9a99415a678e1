-- Runs replayed by the plain ledger's definitions: the manual's whole case, then a file for each recording. Assumes nothing.
pub mod First
pub mod Edges
pub mod Calls
pub mod Trees
pub mod Nests
pub mod Groups
pub mod Limits
pub mod Refusals
pub mod Reads
pub mod Verdicts
