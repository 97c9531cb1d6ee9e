pub mod Entering
pub mod Finishing
pub mod Looping
pub mod Turning
pub mod Walking
