pub mod Bytes
pub mod Errors
pub mod Whole
pub mod Texts
pub mod Digits
pub mod Examples
pub mod bridge
