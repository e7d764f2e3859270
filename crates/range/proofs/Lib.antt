pub mod Numbers
pub mod Sides
pub mod SideCases
pub mod Determined
pub mod Linked
pub mod Keys
