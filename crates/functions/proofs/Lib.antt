pub mod Finding
pub mod Calls
