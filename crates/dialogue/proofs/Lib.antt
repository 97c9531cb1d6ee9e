pub mod Asking
pub mod Items
pub mod Printing
pub mod Prints
pub mod Shows
