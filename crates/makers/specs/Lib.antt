pub mod Maps
pub mod Sheets
