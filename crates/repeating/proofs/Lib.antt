pub mod Back
pub mod Conditions
