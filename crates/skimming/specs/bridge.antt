pub mod Examples
pub mod Flat
pub mod Full
pub mod Marks
pub mod Remaining
pub mod Steps
