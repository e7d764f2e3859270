pub mod Stores
pub mod Bank
pub mod Calls
