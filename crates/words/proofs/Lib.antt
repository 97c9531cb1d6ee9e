pub mod Choices
pub mod Comparing
pub mod Tables
pub mod Classing
pub mod Packing
pub mod Runs
pub mod Tellings
