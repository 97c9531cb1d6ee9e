-- What a run keeps and never exceeds, and what it is refused for.
pub mod Keeping
pub mod Bounds
pub mod Refusals
