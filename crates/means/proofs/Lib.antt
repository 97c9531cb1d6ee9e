pub mod Common
pub mod Lowest
