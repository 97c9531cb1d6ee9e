pub mod Means
pub mod Examples
