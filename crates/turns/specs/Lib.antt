pub mod Steps
pub mod bridge
