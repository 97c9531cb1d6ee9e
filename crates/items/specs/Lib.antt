pub mod Items
pub mod Examples
