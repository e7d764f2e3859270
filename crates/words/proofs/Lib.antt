pub mod Promise
pub mod Small
pub mod Stores
pub mod Edges
pub mod Determined
pub mod Bytes
pub mod Linked
