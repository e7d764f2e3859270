pub mod Acting
pub mod Writing
pub mod Answering
pub mod Determined
pub mod Staging
pub mod Linked
