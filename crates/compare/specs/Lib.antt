pub mod Differences
pub mod Records
pub mod Comparing
pub mod Law
pub mod Examples
pub mod bridge
