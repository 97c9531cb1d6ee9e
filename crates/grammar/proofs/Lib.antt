pub mod Endings
pub mod Others
