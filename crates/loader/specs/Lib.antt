pub mod Refusals
pub mod Lines
pub mod Loading
pub mod Examples
