pub mod Write
pub mod Steps
pub mod Judgement
pub mod Reply
pub mod Answer
