pub mod Carried
pub mod Runs
pub mod Examples
