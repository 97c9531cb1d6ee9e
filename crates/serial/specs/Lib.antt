pub mod Receiving
pub mod Received
pub mod Examples
pub mod bridge
