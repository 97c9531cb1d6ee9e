pub mod Parts
pub mod Statements
pub mod bridge
