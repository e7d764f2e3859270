pub mod Building
pub mod Reading
pub mod Determined
pub mod Linked
