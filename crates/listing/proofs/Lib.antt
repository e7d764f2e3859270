pub mod Digits
pub mod Lines
pub mod Signs
pub mod Fits
pub mod Example
pub mod Makers
pub mod Texts
pub mod Determined
