pub mod Values
pub mod bridge
