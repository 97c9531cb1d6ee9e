pub mod Machine
pub mod Records
pub mod Order
pub mod Items
pub mod Repeats
pub mod bridge
