pub mod Rooms
pub mod Texts
pub mod Wholes
pub mod Positions
