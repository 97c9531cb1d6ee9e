use Rattle.statements.specs.Statements.{variable_of}
use Rattle.machine.specs.bridge.Holding.{position_of}
use Rattle.turns.specs.Steps.{from_limit}
use Rattle.turns.specs.bridge.Turns.{after_of}
use Rattle.turns.proofs.Keeping.{settled_kept, sound_kept}
use Rattle.turns.proofs.Wholes.{turns_none, turns_whole}
use Rattle.control.proofs.Fors.{start_formed, for_parts, limit_read, for_read, for_text, for_whole}
use Rattle.variables.proofs.Agreements.{NoWhole, no_whole_text, no_whole_error}
use Rattle.control.proofs.looping.for_loop.Goals as goal
use Rattle.control.proofs.looping.for_loop.Goals.{in_default-worked-via-in-Ok+in_default, in_default-worked-via-in_default}

pub returns-in_default-clause-does : goal.returns-in_default-clause-does
returns-in_default-clause-does c = λ input room from to by u sound p e entry. rw c.fails.ensures (for_text _ _ from to by _ c.in_default.is sound)

pub value-worked-requires : goal.value-worked-requires
value-worked-requires c = (rw c.token_at-start.ensures (start_formed c.requires.0), c.requires.1.0)

pub returns-in_default-worked-clause-does : goal.returns-in_default-worked-clause-does
returns-in_default-worked-clause-does c = λ input room from to by u sound p e entry.
    let v = variable_of c.args.line.now c.args.name in
    let f = for_read c.args.line.now v c.args.equals e in
    let none : NoWhole c.value-worked.result =
    elim c.in_default-worked.branch [ in_default-worked-via-in-Ok+in_default w ↦ no_whole_text w.in_default-worked.is (rw w.in_default-worked.is at w.in_default-worked.in-Text-own.keys2) | in_default-worked-via-in_default w ↦ no_whole_error w.in_default-worked.is ] in
    rw (c.fails-in_default-worked.ensures, c.mismatch.ensures)
    (for_whole c.args.at.0 v from to by _ c.in-Whole.is
    (turns_none (λ w n. from_limit v.telling c.args.at.0 (position_of c.args.text.now (after_of c.args.here u)) to by w n) sound c.value-worked.result none
    (c.value-worked.ensures from f.upto (rw c.token_at-start.ensures f.from))))

pub with_limit-requires : goal.with_limit-requires
with_limit-requires c = let f = for_parts c.requires.0 in
    let v = rw (c.in-Ok-Whole.is, rw c.in-Ok-Whole.is at c.in-Ok-Whole.field-0-is) at (c.value-worked.ensures c.requires.0.start f.upto (rw c.token_at-start.ensures f.from)) in
    (rw (c.token_at-limit.ensures, v.goes) (limit_read c.requires.0), (settled_kept v.framed.long c.requires.1.0, c.requires.1.1))

pub returns-clause-does : goal.returns-clause-does
returns-clause-does c = λ input room from to by u sound p e entry.
    let v = variable_of c.args.line.now c.args.name in
    let f = for_read c.args.line.now v c.args.equals e in
    let x = rw (c.in-Ok-Whole.is, rw c.in-Ok-Whole.is at c.in-Ok-Whole.field-0-is) at (c.value-worked.ensures from f.upto (rw c.token_at-start.ensures f.from)) in
    for_whole c.args.at.0 v from to by _ c.in-Whole.is
    (turns_whole (λ w n. from_limit v.telling c.args.at.0 (position_of c.args.text.now (after_of c.args.here u)) to by w n) sound x
    (c.with_limit.ensures.does input room to by f.steps u (sound_kept x.framed.long sound) p
    (rw (c.token_at-limit.ensures, x.goes) f.limit) f.by entry))
