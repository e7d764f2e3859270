pub mod Tests
pub mod Among
pub mod Walks
pub mod Cases
