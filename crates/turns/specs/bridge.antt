pub mod Doing
pub mod Turns
