pub mod Beginning
pub mod Dispatching
