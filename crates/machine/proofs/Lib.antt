pub mod Stacking
pub mod Searching
pub mod Limits
pub mod Writing
pub mod Standing
pub mod Takes
pub mod Tokens
pub mod Seeking
