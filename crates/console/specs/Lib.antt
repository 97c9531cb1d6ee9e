pub mod Counts
pub mod Lines
pub mod Files
pub mod Arguments
pub mod Answers
