pub mod Totals
pub mod Unique
pub mod TheSame
