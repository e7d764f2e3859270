pub mod Seen
pub mod Reasons
