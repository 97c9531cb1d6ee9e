-- What the check's tests of a recipe mean for a run of it.
pub mod Operators
pub mod Formulas
pub mod Lines
pub mod Statements
