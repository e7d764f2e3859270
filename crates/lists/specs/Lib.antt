pub mod Lists
pub mod Cases
