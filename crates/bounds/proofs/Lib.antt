pub mod Ahead
pub mod Turning
pub mod Bounds
pub mod TheSame
