pub mod Answers
pub mod Skipping
