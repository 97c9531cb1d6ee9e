pub mod Counting
pub mod Values
pub mod Writing
pub mod Telling
