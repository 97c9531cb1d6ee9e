pub mod Taking
pub mod Giving
