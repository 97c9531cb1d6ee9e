pub mod Answers
pub mod Nots
