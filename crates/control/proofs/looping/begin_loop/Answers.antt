use mathlib.Core.Path.{refl, sym, ap, ◌∙◌}
use Rattle.words.specs.Names.{name_bytes, telling_of}
use Rattle.machine.specs.bridge.Holding.{state_of}
use Rattle.turns.specs.bridge.Turns.{after_of, number_kept}
use Rattle.control.proofs.Fors.{begun_full, begun_skips, begun_made}
use Rattle.control.proofs.looping.begin_loop.Goals as goal

pub returns-in_default-clause-does : goal.returns-in_default-clause-does
returns-in_default-clause-does c =
    let m = state_of c.args.machine c.args.tables.now in
    rw c.fails.ensures
    (begun_full c.args.text.now c.args.at m (telling_of (name_bytes c.args.line.now c.args.name)) c.args.from c.args.limit c.args.step (after_of c.args.here c.args.ahead) c.args.found (ap (number_kept m) c.in_default.ensures)
    refl)

pub returns-then-passed-clause-does : goal.returns-then-passed-clause-does
returns-then-passed-clause-does c =
    let m = state_of c.args.machine c.args.tables.now in
    rw c.turned_to.ensures
    (begun_skips c.args.text.now c.args.at m (telling_of (name_bytes c.args.line.now c.args.name)) c.args.from c.args.limit c.args.step (after_of c.args.here c.args.ahead) c.args.found (ap (number_kept m) c.in-Some.ensures)
    refl (sym c.passed.ensures ∙ c.if-passed.true) (c.dropped_to-under.ensures _) c.skip_body.ensures refl)

pub returns-clause-does : goal.returns-clause-does
returns-clause-does c =
    let m = state_of c.args.machine c.args.tables.now in
    begun_made c.args.text.now c.args.at m (telling_of (name_bytes c.args.line.now c.args.name)) c.args.from c.args.limit c.args.step (after_of c.args.here c.args.ahead) c.args.found (ap (number_kept m) c.in-Some.ensures)
    refl (sym c.passed.ensures ∙ c.if-passed.false) c.after-back.ensures (c.dropped_to-under.ensures _) c.counts-held.ensures (c.push.ensures _)
