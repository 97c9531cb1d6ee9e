pub mod Formulas
pub mod Functions
pub mod Tests
pub mod Trees
pub mod bridge
