pub mod Printed
pub mod Sheet
pub mod Reports
pub mod Examples
pub mod bridge
