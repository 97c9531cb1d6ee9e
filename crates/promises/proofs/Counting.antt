-- Unfinished strings, counted request by request, and the most that the machine notes.
pub mod Rising
pub mod Few
pub mod Formulas
pub mod Raising
pub mod Asked
pub mod Noting
pub mod Granted
pub mod Statements
pub mod Runs
