pub mod Calls
pub mod Cuttings
pub mod Boxes
