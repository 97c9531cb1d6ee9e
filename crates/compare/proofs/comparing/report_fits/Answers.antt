-- The room and the records ahead are the report and the room left.
use mathlib.Core.Path.{sym, ap, ◌∙◌}
use native.Mathlib.Omega.{arith}
use borrow.Author.Tests.{le-leb, lt-leb}
use lib.ListN.{length}
use Rattle.whole.proofs.Numerals.{held_count}
use Rattle.compare.specs.Records.{report_of}
use Rattle.compare.proofs.Turning.{lies, all_ahead, turn_ahead, all_said}
use Rattle.compare.proofs.comparing.report_fits.Goals as goal

pub loop-heads-init : goal.loop-heads-init
loop-heads-init c = let b = all_ahead c.args.old.now c.args.new.now c.requires.0 c.requires.1 c.first_heads-heads.ensures in
    (b.0, omega (arith, ap length b.1))

pub next_turn-turn-requires : goal.next_turn-turn-requires
next_turn-turn-requires c = (lies _ _ c.loop-heads.invariant.0.old_next, lies _ _ c.loop-heads.invariant.0.new_next)

pub returns-then-left-len : goal.returns-then-left-len
returns-then-left-len c = let t = turn_ahead _ _ c.loop-heads.invariant.0 c.next_turn-turn.ensures in
    sym (lt-leb (length (report_of c.args.old.now c.args.new.now)) c.args.room
    (omega (arith, t.size, held_count _ c.records_in.ensures, c.if-left-len.true, c.loop-heads.invariant.1)))

pub loop-heads-smaller : goal.loop-heads-smaller
loop-heads-smaller c = (turn_ahead _ _ c.loop-heads.invariant.0 c.next_turn-turn.ensures).less (sym c.some_left.ensures ∙ c.loop-heads-test.true)

pub loop-heads-preserved : goal.loop-heads-preserved
loop-heads-preserved c = let t = turn_ahead _ _ c.loop-heads.invariant.0 c.next_turn-turn.ensures in
    (t.standing, omega (arith, t.size, held_count _ c.records_in.ensures, c.if-left-len.false, c.loop-heads.invariant.1))

pub returns : goal.returns
returns c = let e = all_said c.args.old.now c.args.new.now c.loop-heads.heads (sym c.some_left.ensures ∙ c.loop-heads-test.false) in
    sym (le-leb (length (report_of c.args.old.now c.args.new.now)) c.args.room (omega (arith, ap length e, c.loop-heads.invariant.1)))
