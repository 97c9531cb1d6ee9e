pub mod Calls
pub mod Totals
