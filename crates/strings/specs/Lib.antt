pub mod Functions
pub mod bridge
