pub mod Telling
pub mod Determined
pub mod Linked
