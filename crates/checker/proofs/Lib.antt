pub mod Missing
pub mod Faults
