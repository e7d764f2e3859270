pub mod Judged
pub mod Sent
pub mod Heard
pub mod Alike
