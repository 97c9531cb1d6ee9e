pub mod Branches
pub mod Skips
pub mod Fors
pub mod Jumps
pub mod Led
pub mod Nexts
pub mod One
