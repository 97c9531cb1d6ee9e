pub mod Rooms
pub mod Machines
pub mod Turning
pub mod Runs
pub mod Calls
