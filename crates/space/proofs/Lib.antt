pub mod Bounds
pub mod Parts
pub mod Overlaid
pub mod Turns
pub mod Frames
pub mod Kept
