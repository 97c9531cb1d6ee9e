pub mod Callers
pub mod Pairs
pub mod Index
pub mod Asking
pub mod Law
pub mod Examples
pub mod bridge
