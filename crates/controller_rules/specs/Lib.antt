pub mod Order
pub mod Query
pub mod Reading
