pub mod Reported
pub mod Kept
pub mod Taken
pub mod Lines
pub mod Nexts
pub mod Cuttings
