pub mod Leading
pub mod Counting
pub mod Unique
