pub mod Framed
pub mod Queries
pub mod Outcomes
pub mod Readings
pub mod QueryCases
pub mod ReplyCases
