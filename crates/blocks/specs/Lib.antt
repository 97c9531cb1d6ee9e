pub mod Blocks
pub mod Examples
