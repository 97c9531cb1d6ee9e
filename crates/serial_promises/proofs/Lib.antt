pub mod Following
pub mod Cuttings
pub mod Boxes
pub mod Unique
pub mod TheSame
