pub mod Places
pub mod Spellings
pub mod Classes
pub mod Vocabulary
pub mod Names
pub mod Examples
pub mod bridge
