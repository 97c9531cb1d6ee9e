pub mod Never
pub mod Numbers
pub mod Sizes
pub mod Theorems
pub mod Reading
pub mod Items
pub mod Numerals
