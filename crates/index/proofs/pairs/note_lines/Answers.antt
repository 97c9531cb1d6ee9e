-- The loop's invariant: the pairs of the lines before the row reached are noted.
use Rattle.std.specs.Prelude.{None, Some}
use mathlib.Core.Path.{◌≡◌, sym, ap, ◌∙◌}
use mathlib.Core.List.{◌++◌}
use native.Mathlib.Omega.{arith}
use lib.ListN.{length, drop}
use Rattle.loader.specs.Lines.{lines_of}
use Rattle.index.specs.bridge.Noting.{first_pairs, pair_room, NotedAs}
use Rattle.index.proofs.Noting.{held_long}
use Rattle.index.proofs.Laying.{blank_long}
use Rattle.index.proofs.Walking.{told_count, told_full}
use Rattle.index.proofs.Lining.{lined_none, lined_more, lined_full, lined_all}
use Rattle.index.proofs.pairs.note_lines.Goals as goal

pub loop-row-init : goal.loop-row-init
loop-row-init c = lined_none _ c.requires.1

pub note_row-requires : goal.note_row-requires
note_row-requires c = (
  c.requires.0,
  omega (arith, c.count_of-row-end.ensures, c.loop-row-test.true),
  omega (arith, c.loop-row.invariant.keeps.counts, c.loop-row.invariant.keeps.few),
  held_long c.loop-row.invariant.keeps,
)

pub returns-in_err-count : goal.returns-in_err-count
returns-in_err-count c =
    let none : c.note_row.result ≡ None = c.in_err-count.was in
    let noted : NotedAs c.note_row.result c.note_row.new.pairs (c.loop-row.invariant.done ++ first_pairs (drop c.loop-row.row (lines_of c.args.text.now))) = c.note_row.ensures.noted_as c.loop-row.invariant.done c.loop-row.invariant.keeps in
    rw c.from_residual.ensures (lined_full c.loop-row.invariant (told_full _ _ none noted))

pub loop-row-preserved : goal.loop-row-preserved
loop-row-preserved c =
    let some : c.note_row.result ≡ Some c.in_ok-count.count = c.in_ok-count.was in
    let noted : NotedAs c.note_row.result c.note_row.new.pairs (c.loop-row.invariant.done ++ first_pairs (drop c.loop-row.row (lines_of c.args.text.now))) = c.note_row.ensures.noted_as c.loop-row.invariant.done c.loop-row.invariant.keeps in
    lined_more c.loop-row.invariant (told_count _ _ some noted)

pub shape_of-pairs : goal.shape_of-pairs
shape_of-pairs c = held_long c.loop-row.invariant.keeps ∙ sym (ap length c.requires.1 ∙ blank_long pair_room)

pub returns : goal.returns
returns c = lined_all c.loop-row.invariant (omega (arith, c.requires.0.counts, c.count_of-row-end.ensures, c.loop-row-test.false))
