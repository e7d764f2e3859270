pub mod Good
pub mod Refusals
pub mod Making
pub mod Determined
pub mod Linked
