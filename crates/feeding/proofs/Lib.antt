pub mod Cursor
pub mod Stepping
pub mod Lines
pub mod Giving
pub mod Filling
