pub mod Laying
pub mod Reading
pub mod Closing
pub mod Passing
pub mod Rooms
pub mod Determined
pub mod Linked
