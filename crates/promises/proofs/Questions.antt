-- Asking for a variable after a run.
pub mod Layout
pub mod Asking
