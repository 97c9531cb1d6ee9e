pub mod Answering
pub mod Chains
pub mod Joining
pub mod Levelled
pub mod Rooms
pub mod Sorting
pub mod Steps
pub mod Views
