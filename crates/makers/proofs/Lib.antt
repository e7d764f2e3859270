pub mod Sheets
pub mod Determined
