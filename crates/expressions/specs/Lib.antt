pub mod Types
pub mod bridge
