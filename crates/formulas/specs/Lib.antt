pub mod Memory
pub mod Examples
