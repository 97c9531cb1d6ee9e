-- Each part of an index by its place.
use mathlib.Core.Path.{◌≡◌}
use Prim.Native.Nat.{suc, ◌+◌, ◌-◌}
use native.Mathlib.Omega.{arith}
use Rattle.index.specs.Index.{pairs_at}
use Rattle.index.proofs.Laying.{of_table, of_none, of_count, of_pairs, of_rest}
use Rattle.index.proofs.layout.word_at.Goals as goal

pub returns-then-i-table : goal.returns-then-i-table
returns-then-i-table c = of_table c.args.table.now c.args.pairs.now c.args.count c.requires.0 c.args.i c.if-i-table.true

pub returns-then-i-lt-PAIRS : goal.returns-then-i-lt-PAIRS
returns-then-i-lt-PAIRS c = of_none c.args.table.now c.args.pairs.now c.args.count c.requires.0 c.args.i c.if-i-table.false c.if-i-lt-PAIRS.true

pub returns-then-i-eq-PAIRS : goal.returns-then-i-eq-PAIRS
returns-then-i-eq-PAIRS c = of_count c.args.table.now c.args.pairs.now c.args.count c.requires.0 c.args.i c.if-i-eq-PAIRS.true

pub overflow_sub-behind-2 : goal.overflow_sub-behind-2
overflow_sub-behind-2 c = omega (arith, c.if-i-lt-PAIRS.false, c.if-i-eq-PAIRS.false)

pub returns-then-behind-pairs : goal.returns-then-behind-pairs
returns-then-behind-pairs c =
    let apart : c.args.i ≡ pairs_at + suc (c.args.i - pairs_at - 1) = omega (arith, c.if-i-lt-PAIRS.false, c.if-i-eq-PAIRS.false) in
    of_pairs c.args.table.now c.args.pairs.now c.args.count c.requires.0 c.args.i _ (apart) c.if-behind-pairs.true

pub returns : goal.returns
returns c =
    let apart : c.args.i ≡ pairs_at + suc (c.args.i - pairs_at - 1) = omega (arith, c.if-i-lt-PAIRS.false, c.if-i-eq-PAIRS.false) in
    of_rest c.args.table.now c.args.pairs.now c.args.count c.requires.0 c.args.i _ (apart) c.if-behind-pairs.false c.requires.1
