-- Two answers that a contract allows are equal: one line a public function, over its contract as the toolchain made it from the source, so
-- that a weakened contract breaks its line.
pub use Rattle.calls.proofs.Same.{same}
pub mod Means
pub mod Records
pub mod Tallies
pub mod Sheet
