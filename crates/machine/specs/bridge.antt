pub mod Holding
pub mod Taking
pub mod Wanted
pub mod Seeking
