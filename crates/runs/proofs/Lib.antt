pub mod Lending
pub mod Returning
pub mod Door
pub mod Machine
pub mod Witness
