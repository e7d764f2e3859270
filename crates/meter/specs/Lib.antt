pub mod Stages
pub mod Acting
pub mod Asked
