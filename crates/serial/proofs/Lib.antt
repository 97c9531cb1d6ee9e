pub mod Steps
pub mod Received
pub mod Lengths
