pub mod Orders
pub mod Sides
pub mod Fitting
