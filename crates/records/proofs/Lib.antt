pub mod Fields
pub mod Words
pub mod Figures
pub mod Long
pub mod Sound
