-- 14 comes exactly when more is asked for than there is: of formulas, of statements, of runs.
pub mod Rooms
pub mod Formulas
pub mod Statements
pub mod Runs
