pub mod Totals
pub mod bridge
