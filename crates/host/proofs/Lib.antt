pub mod Kept
pub mod ReadAgain
