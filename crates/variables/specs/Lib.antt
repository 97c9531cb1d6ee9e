pub mod Strings
pub mod Variables
pub mod Tables
pub mod bridge
