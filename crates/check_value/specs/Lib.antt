pub mod Check
pub mod Frame
pub mod Damage
pub mod Ones
