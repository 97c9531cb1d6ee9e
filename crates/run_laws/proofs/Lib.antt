pub mod Carrying
pub mod Proper
pub mod Reading
pub mod Throughout
pub mod Lines
pub mod Turning
pub mod Runs
