-- The loop's invariant: from the place reached on the line reads, and what it names there comes, with what is noted, to what the whole line names.
use Rattle.std.specs.Prelude.{None, Some}
use mathlib.Core.Path.{◌≡◌, refl, sym, ◌∙◌}
use mathlib.Core.List.{◌++◌}
use Prim.Native.Nat.{◌≤◌}
use native.Mathlib.Omega.{arith}
use borrow.Author.Rules.{rules}
use lib.ListN.{length}
use Rattle.reader.specs.bridge.Walking.{Further}
use Rattle.reader.proofs.Visits.{further}
use Rattle.index.specs.Pairs.{with_named, pairs_with}
use Rattle.index.specs.Index.{most_pairs}
use Rattle.index.specs.bridge.Noting.{pair_room}
use Rattle.index.proofs.Walking.{told_count, told_full, noting_first, noting_on, noting_full}
use Rattle.index.proofs.pairs.note_line.Goals as goal

pub loop-count-init : goal.loop-count-init
loop-count-init c = (c.requires.0, c.requires.1, λ part done e h. noting_first c.args.line.now c.args.own done part e h)

pub returns-in_err-count-clause-noted_as : goal.returns-in_err-count-clause-noted_as
returns-in_err-count-clause-noted_as c = λ part done e h.
    let none : c.note.result ≡ None = c.in_err-count.was in
    let g = c.loop-count.invariant.2 part done e h in
    let k = told_full c.note.new.pairs (done ++ pairs_with c.args.own (with_named g.seen c.named_by.result))
    none (c.note.ensures.noted_as done g.seen g.starts g.keeps) in
    rw c.from_residual.ensures (noting_full c.args.line.now c.args.own g c.statement_at-read.ensures c.named_by.ensures refl k)

pub returns-in_default-clause-noted_as : goal.returns-in_default-clause-noted_as
returns-in_default-clause-noted_as c = λ part done e h.
    let some : c.note.result ≡ Some c.in_ok-count.count = c.in_ok-count.was in
    let g = c.loop-count.invariant.2 part done e h in
    let k = told_count c.note.new.pairs (done ++ pairs_with c.args.own (with_named g.seen c.named_by.result))
    some (c.note.ensures.noted_as done g.seen g.starts g.keeps) in
    noting_on c.args.line.now c.args.own g c.statement_at-read.ensures c.named_by.ensures (sym c.in_default.is ∙ c.next_statement.ensures) k

pub loop-count-smaller : goal.loop-count-smaller
loop-count-smaller c =
    let l : Further c.args.line.now c.loop-count.at.0 (Some c.in-Some.next)
    = further c.args.line.now c.loop-count.at.0 c.statement_at-read.ensures (sym c.in-Some.is ∙ c.next_statement.ensures) in
    omega (arith, l)

pub loop-count-preserved : goal.loop-count-preserved
loop-count-preserved c =
    let some : c.note.result ≡ Some c.in_ok-count.count = c.in_ok-count.was in
    let long : length c.note.new.pairs ≡ pair_room = search (rules, c.note.auto, c.loop-count.invariant.1) in
    let few : c.in_ok-count.count ≤ most_pairs = rw some at c.note.ensures.within in (
      few,
      long,
      λ part done e h.
          let g = c.loop-count.invariant.2 part done e h in
          let k = told_count c.note.new.pairs (done ++ pairs_with c.args.own (with_named g.seen c.named_by.result))
          some (c.note.ensures.noted_as done g.seen g.starts g.keeps) in
          noting_on c.args.line.now c.args.own g c.statement_at-read.ensures c.named_by.ensures (sym c.in-Some.is ∙ c.next_statement.ensures) k,
    )
