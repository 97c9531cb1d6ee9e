pub mod Cutting
pub mod Inside
pub mod Listing
pub mod After
