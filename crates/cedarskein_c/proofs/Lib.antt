pub mod Determined
pub mod Exports
pub mod Machine
pub mod Witness
