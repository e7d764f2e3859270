pub mod Sizes
pub mod Determined
pub mod Linked
