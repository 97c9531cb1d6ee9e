pub mod Asking
pub mod Laying
pub mod Noting
