pub mod Numbers
pub mod Answers
pub mod Determined
pub mod Linked
