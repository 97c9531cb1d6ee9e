pub mod Hexadecimals
pub mod Beginnings
pub mod Ends
