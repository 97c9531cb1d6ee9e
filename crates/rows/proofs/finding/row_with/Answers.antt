-- A binary search by the number in the column (`searched`), which is what the closure gives of a row.
use mathlib.Core.List.{List}
use Prim.Native.Nat.{ℕ, ◌<◌}
use lib.ListN.{get_or}
use Rattle.std.proofs.Common.{rules}
use Rattle.std.proofs.lemmas.Fn.{always_returns_same}
use Rattle.rows.specs.bridge.Rows.{count_of}
use Rattle.rows.proofs.Searching.{searched}
use Rattle.rows.proofs.finding.row_with.Goals as goal

pub returns-in-Ok : goal.returns-in-Ok
returns-in-Ok c =
    let facts = c.binary_search_by_key.ensures in
    let by_key = facts.position (λ (row : List ℕ). get_or row c.args.column 0) (always_returns_same _ _ _ (λ a r g called. search rules)) in
    let cells = λ (i : ℕ) (h : i < count_of c.args.rows.now). c.table_of.ensures.cells i c.args.column h c.requires.0 in
    rw c.in-Ok.is at (searched c.args.rows.now c.table_of.result.now c.args.column c.args.wanted c.table_of.ensures.counts cells c.requires.1.1 c.binary_search_by_key.result facts.bound by_key)

pub returns-in-Err : goal.returns-in-Err
returns-in-Err c =
    let facts = c.binary_search_by_key.ensures in
    let by_key = facts.position (λ (row : List ℕ). get_or row c.args.column 0) (always_returns_same _ _ _ (λ a r g called. search rules)) in
    let cells = λ (i : ℕ) (h : i < count_of c.args.rows.now). c.table_of.ensures.cells i c.args.column h c.requires.0 in
    rw c.in-Err.is at (searched c.args.rows.now c.table_of.result.now c.args.column c.args.wanted c.table_of.ensures.counts cells c.requires.1.1 c.binary_search_by_key.result facts.bound by_key)
