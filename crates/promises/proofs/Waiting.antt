-- Unfinished strings: how many wait at once in any run, and which bytes are live.
pub mod Rooms
pub mod Needs
pub mod Nesting
pub mod Reading
pub mod Turns
pub mod Runs
