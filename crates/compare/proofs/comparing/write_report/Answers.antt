-- The room holds the records of the turns so far (`Written`), and those ahead are the rest of the report.
use mathlib.Core.Path.{sym, ◌∙◌}
use Rattle.compare.specs.bridge.Turns.{records_in}
use Rattle.compare.proofs.Turning.{lies, all_ahead, turn_ahead, all_said}
use Rattle.compare.proofs.Written.{none_written, written_held, all_written}
use Rattle.compare.proofs.comparing.write_report.Goals as goal

pub loop-heads-init : goal.loop-heads-init
loop-heads-init c = let a = all_ahead c.args.old.now c.args.new.now c.requires.0 c.requires.1 c.first_heads-heads.ensures in
    (a.0, rw a.1 (none_written _ _))

pub next_turn-turn-requires : goal.next_turn-turn-requires
next_turn-turn-requires c = (lies _ _ c.loop-heads.invariant.0.old_next, lies _ _ c.loop-heads.invariant.0.new_next)

pub loop-heads-smaller : goal.loop-heads-smaller
loop-heads-smaller c = (turn_ahead _ _ c.loop-heads.invariant.0 c.next_turn-turn.ensures
    ).less (sym c.some_left.ensures ∙ c.loop-heads-test.true)

pub loop-heads-preserved : goal.loop-heads-preserved
loop-heads-preserved c = let t = turn_ahead _ _ c.loop-heads.invariant.0 c.next_turn-turn.ensures in
    let w = written_held c.loop-heads.invariant.1 (records_in c.next_turn-turn.result.said) c.requires.2 t.records c.records_in-record.ensures in
    rw c.from-len.ensures (t.standing, w (rw c.from-len.ensures at c.copy_in.ensures))

pub returns-clause-out_after : goal.returns-clause-out_after
returns-clause-out_after c = let e = all_said c.args.old.now c.args.new.now c.loop-heads.heads (sym c.some_left.ensures ∙ c.loop-heads-test.false) in
    (all_written (rw e at c.loop-heads.invariant.1)).1

pub returns-clause-value : goal.returns-clause-value
returns-clause-value c = let e = all_said c.args.old.now c.args.new.now c.loop-heads.heads (sym c.some_left.ensures ∙ c.loop-heads-test.false) in
    (all_written (rw e at c.loop-heads.invariant.1)).0
