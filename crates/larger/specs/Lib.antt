pub mod Larger
pub mod Examples
