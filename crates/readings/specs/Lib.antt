pub mod Values
pub mod Bits
pub mod Lines
pub mod Importing
pub mod Examples
pub mod bridge
