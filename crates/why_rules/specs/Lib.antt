pub mod Facts
pub mod Reasons
