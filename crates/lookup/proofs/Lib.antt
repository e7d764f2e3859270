pub mod Addresses
pub mod Placed
pub mod Found
pub mod Determined
pub mod Linked
