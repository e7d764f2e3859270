pub mod Rows
pub mod Rules
pub mod Lookup
pub mod Runs
