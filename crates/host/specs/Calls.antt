-- What a host has after a call.
use Rattle.std.specs.Prelude.{◌≡◌, cond, List, ℕ}
use Rattle.runner.specs.Run.{Ran, is_refused, tables_of, answer_of, space_after, room_after, stack_after}
use Rattle.machine.specs.declared.records.Record.{Record}
use Rattle.host.specs.Answers.{answer_in}
use Rattle.blocks.specs.Blocks.{tables_in, block_of}

-- the block after a run: the variables that it has made; a refusal leaves the block as it was
abbrev pub block_after : Ran → List ℕ → List ℕ
block_after r block = cond (is_refused r.ending) block (block_of (tables_of r.machine.variables))

-- After a run, whatever it began with and to the last byte: the answer and the block of tables. The block then means the tables that a run
-- hands back to whoever hands it those that the block meant before.
pub record Told (ran : Ran) (block block' answer : List ℕ) : Type 0 where
  pub answered : answer ≡ answer_in (answer_of ran (tables_in block))
  pub kept : block' ≡ block_after ran block
  pub meant : tables_in block' ≡ (answer_of ran (tables_in block)).tables

-- And the string space, the room for output and the records.
pub record HasRun (ran : Ran) (space room : List ℕ) (records : List Record) (block space' room' : List ℕ) (records' : List Record) (block' answer : List ℕ) : Type 0 where
  pub told : Told ran block block' answer
  pub spaced : space' ≡ space_after ran space
  pub roomy : room' ≡ room_after ran room
  pub stacked : records' ≡ stack_after ran records
