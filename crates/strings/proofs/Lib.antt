pub mod Givens
pub mod Produced
pub mod Parts
pub mod Calls
