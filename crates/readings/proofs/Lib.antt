pub mod Products
pub mod Singles
pub mod Made
pub mod Denoting
pub mod Rules
pub mod Filled
pub mod Groups
pub mod Unique
