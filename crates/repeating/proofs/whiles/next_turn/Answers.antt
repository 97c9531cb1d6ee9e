use native.Mathlib.Omega.{arith}
use Rattle.repeating.proofs.Conditions.{found_none, found_false, found_true}
use Rattle.variables.proofs.Agreements.{NoWhole, no_whole_text, no_whole_error}
use Rattle.repeating.proofs.whiles.next_turn.Goals as goal
use Rattle.repeating.proofs.whiles.next_turn.Goals.{in_default-via-in-Ok+in_default, in_default-via-in_default}

pub returns-in_default : goal.returns-in_default
returns-in_default c = λ input room entry f u sound k.
    let none : NoWhole c.value-worked.result =
    elim c.in_default.branch [ in_default-via-in-Ok+in_default w ↦ no_whole_text w.in_default.is (rw w.in_default.is at w.in_default.in-Text-own.keys2) | in_default-via-in_default w ↦ no_whole_error w.in_default.is ] in
    rw (c.fails.ensures, c.mismatch.ensures) (found_none k sound c.requires.1.1.0 entry c.value-worked.result none (c.value-worked.ensures f u k.reads))

pub returns-then-word-eq0 : goal.returns-then-word-eq0
returns-then-word-eq0 c = λ input room entry f u sound k.
    let v = rw (c.in-Ok-Whole.is, rw c.in-Ok-Whole.is at c.in-Ok-Whole.field-0-is) at (c.value-worked.ensures f u k.reads) in
    rw c.turned_to.ensures (found_false k sound c.requires.1.1.0 entry v c.if-word-eq0.true c.past_wend.ensures)

pub overflow_add-m : goal.overflow_add-m
overflow_add-m c = omega (arith, c.requires.1.1.0, c.well_formed.1.1.1.1.1.0)

pub returns : goal.returns
returns c = λ input room entry f u sound k.
    let v = rw (c.in-Ok-Whole.is, rw c.in-Ok-Whole.is at c.in-Ok-Whole.field-0-is) at (c.value-worked.ensures f u k.reads) in
    rw c.goes_on.ensures (found_true k sound c.requires.1.1.0 entry v c.if-word-eq0.false)
