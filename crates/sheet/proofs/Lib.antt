pub mod Areas
pub mod Covering
pub mod HeaderWords
pub mod Items
pub mod Determined
pub mod Linked
