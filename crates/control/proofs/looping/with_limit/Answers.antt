use Rattle.words.specs.Names.{name_bytes, telling_of}
use Rattle.machine.specs.bridge.Holding.{position_of}
use Rattle.turns.specs.Steps.{from_step}
use Rattle.turns.specs.bridge.Turns.{after_of}
use Rattle.turns.proofs.Keeping.{settled_kept, sound_kept}
use Rattle.turns.proofs.Wholes.{turns_none, turns_whole}
use Rattle.variables.proofs.Agreements.{NoWhole, no_whole_text, no_whole_error}
use Rattle.control.proofs.looping.with_limit.Goals as goal
use Rattle.control.proofs.looping.with_limit.Goals.{in_default-via-in-Ok+in_default, in_default-via-in_default}

pub returns-in_default-clause-does : goal.returns-in_default-clause-does
returns-in_default-clause-does c = λ input room to by t u sound p e s entry.
    let none : NoWhole c.value-worked.result =
    elim c.in_default.branch [ in_default-via-in-Ok+in_default w ↦ no_whole_text w.in_default.is (rw w.in_default.is at w.in_default.in-Text-own.keys2) | in_default-via-in_default w ↦ no_whole_error w.in_default.is ] in
    rw (c.fails.ensures, c.mismatch.ensures)
    (turns_none (λ w n. from_step (telling_of (name_bytes c.args.line.now c.args.name)) c.args.at.0 (position_of c.args.text.now (after_of c.args.here u)) by c.args.from w n) sound c.value-worked.result none (c.value-worked.ensures to t e))

pub with_step-requires : goal.with_step-requires
with_step-requires c = let v = rw (c.in-Ok-Whole.is, rw c.in-Ok-Whole.is at c.in-Ok-Whole.field-0-is) at (c.value-worked.ensures c.requires.0.limit c.requires.0.at c.requires.0.reads) in
    (rw v.goes c.requires.0.steps, (settled_kept v.framed.long c.requires.1.0, c.requires.1.1))

pub returns-clause-does : goal.returns-clause-does
returns-clause-does c = λ input room to by t u sound p e s entry.
    let v = rw (c.in-Ok-Whole.is, rw c.in-Ok-Whole.is at c.in-Ok-Whole.field-0-is) at (c.value-worked.ensures to t e) in
    turns_whole (λ w n. from_step (telling_of (name_bytes c.args.line.now c.args.name)) c.args.at.0 (position_of c.args.text.now (after_of c.args.here u)) by c.args.from w n) sound v
    (c.with_step.ensures.does input room by u (sound_kept v.framed.long sound) p (rw v.goes s) entry)
