pub mod Examples
pub mod bridge
