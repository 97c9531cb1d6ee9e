use Rattle.std.proofs.Common.{Ok}
use mathlib.Core.Path.{ap, ◌∙◌}
use Rattle.variables.proofs.Agreements.{NoWhole, no_whole_text, no_whole_error}
use Rattle.control.proofs.Branches.{if_none, if_false, if_true}
use Rattle.control.proofs.branching.choose.Goals as goal
use Rattle.control.proofs.branching.choose.Goals.{in_default-via-in-Ok+in_default, in_default-via-in_default}

pub returns-in_default : goal.returns-in_default
returns-in_default c = λ text input room at k t p u after sound st lines f e low.
    let none : NoWhole c.value-worked.result =
    elim c.in_default.branch [ in_default-via-in-Ok+in_default w ↦ no_whole_text w.in_default.is (rw w.in_default.is at w.in_default.in-Text-own.keys2) | in_default-via-in_default w ↦ no_whole_error w.in_default.is ] in
    rw (c.fails.ensures, c.mismatch.ensures) (if_none at after st sound lines e low c.value-worked.result none (c.value-worked.ensures k t f))

pub returns-then-word-eq0 : goal.returns-then-word-eq0
returns-then-word-eq0 c = λ text input room at k t p u after sound st lines f e low.
    let v = rw (c.in-Ok-Whole.is, rw c.in-Ok-Whole.is at c.in-Ok-Whole.field-0-is) at (c.value-worked.ensures k t f) in
    rw (c.taken.ensures _, c.else_of.ensures, v.goes, e) (if_false at after st sound lines e low v c.if-word-eq0.true)

pub returns : goal.returns
returns c = λ text input room at k t p u after sound st lines f e low.
    let v = rw (c.in-Ok-Whole.is, rw c.in-Ok-Whole.is at c.in-Ok-Whole.field-0-is) at (c.value-worked.ensures k t f) in
    rw (c.taken-2.ensures _) (if_true at after st sound lines e low v c.if-word-eq0.false)
