pub mod Calls
pub mod Bounds
pub mod Examples
