-- Two answers that a contract allows are equal: one line a public function, over its contract as the toolchain made it from the source, so
-- that a weakened contract breaks its line. The few that leave something open are in docs/EXCEPTIONS.md.
pub use Rattle.calls.proofs.Same.{same, pair}
pub mod Whole
pub mod Words
pub mod Scanner
pub mod Items
pub mod Loader
pub mod Grammar
pub mod Skimming
pub mod Expressions
pub mod Statements
pub mod Reader
pub mod Checker
pub mod Rows
pub mod Space
pub mod Variables
pub mod Strings
pub mod Functions
pub mod Operators
pub mod Machine
pub mod Stack
pub mod Turns
pub mod Runner
pub mod Asking
pub mod Blocks
pub mod Host
pub mod Promises
