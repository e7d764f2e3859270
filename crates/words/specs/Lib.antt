pub mod Words
pub mod Changes
