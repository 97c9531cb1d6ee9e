pub mod Storing
pub mod Filling
pub mod Ordering
pub mod Searching
