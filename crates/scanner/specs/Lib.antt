pub mod Runs
pub mod Tokens
pub mod Examples
