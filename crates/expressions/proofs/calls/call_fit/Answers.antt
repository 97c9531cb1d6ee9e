-- By the number of arguments: what the function wants of so many, if it takes them.
use borrow.Enum.Refused.{opened as unsealed}
use mathlib.Core.Bool.{and-true, false≢true}
use Rattle.std.specs.Prelude.{Some}
use mathlib.Core.Path.{sym, ap, ◌∙◌}
use mathlib.Core.List.{[], ◌∷◌}
use mathlib.Core.Logic.{⊎_elim}
use native.Mathlib.Omega.{arith}
use Rattle.expressions.specs.Types.{all_meet}
use Rattle.expressions.proofs.Sorting.{fit_packed, other_wanted, all_wanted}
use Rattle.expressions.proofs.calls.call_fit.Goals as goal
use Rattle.expressions.proofs.calls.call_fit.Goals.{then-meets, else-meets, then-meets-3, else-meets-3, then-meets-2, else-meets-2}

pub returns-in_default : goal.returns-in_default
returns-in_default c l e = rw (fit_packed, ← e, c.in-One.is)
    (sym (other_wanted c.args.function (c.in-One.a ∷ []) c.wants.ensures
    (λ z. ⊎_elim (λ h. omega arith) (⊎_elim (λ h. omega arith) (λ h. omega arith)) (unsealed c.in_default.in_default-own.keys2))))

pub returns-in_default-wants : goal.returns-in_default-wants
returns-in_default-wants c l e = rw (fit_packed, ← e, c.in-Two.is)
    (sym (other_wanted c.args.function (c.in-Two.a ∷ c.in-Two.b ∷ []) c.wants-in-Two.ensures
    (λ z. ⊎_elim (λ h. omega arith) (⊎_elim (λ h. omega arith) (λ h. omega arith)) (unsealed c.in_default-wants.in_default-wants-own.keys2))))

pub returns-in_default-wants-2 : goal.returns-in_default-wants-2
returns-in_default-wants-2 c l e = rw (fit_packed, ← e, c.in-Three.is)
    (sym (other_wanted c.args.function (c.in-Three.a ∷ c.in-Three.b ∷ c.in-Three.c ∷ []) c.wants-in-Three.ensures
    (λ z. ⊎_elim (λ h. omega arith) (⊎_elim (λ h. omega arith) (λ h. omega arith)) (unsealed c.in_default-wants-2.in_default-wants-2-own.keys2))))

pub returns-in-Zero : goal.returns-in-Zero
returns-in-Zero c l e = rw (fit_packed, ← e, c.in-Zero.is)

pub returns-in-One-wants : goal.returns-in-One-wants
unfolding all_meet
returns-in-One-wants c l e = rw (fit_packed, ← e, c.in-One.is, all_wanted _ (_ ∷ []) (sym c.in-One-wants.is ∙ c.wants.ensures) (omega arith), and-true, ← c.meets.ensures)
    (ap Some c.call_sort.ensures)

pub returns-after-meets : goal.returns-after-meets
unfolding all_meet
returns-after-meets c l e = rw (fit_packed, ← e, c.in-Two.is, all_wanted _ (_ ∷ _ ∷ []) (sym c.in-Two-wants.is ∙ c.wants-in-Two.ensures) (omega arith), and-true, ← c.meets-in-Two.ensures)
    ((elim c.if-meets.branch [
      | then-meets w ↦ rw (w.if-meets.true, ← w.meets-then-meets.ensures, ← w.call_sort-is) (ap Some c.call_sort-in-Two.ensures)
      | else-meets w ↦ rw w.if-meets.false (ap Some (rw (w.call_sort-is, w.if-meets.false) at c.call_sort-in-Two.ensures))
    ]))

pub returns-after-meets-3 : goal.returns-after-meets-3
unfolding all_meet
returns-after-meets-3 c l e = rw (fit_packed, ← e, c.in-Three.is, all_wanted _ (_ ∷ _ ∷ _ ∷ []) (sym c.in-Three-wants.is ∙ c.wants-in-Three.ensures) (omega arith), and-true, ← c.meets-in-Three.ensures)
    ((elim c.if-meets-2.branch [
      | then-meets-2 w ↦ rw (w.if-meets-2.true, ← w.meets-then-meets-2.ensures, ← w.value-is) ((elim c.if-meets-3.branch [
        | then-meets-3 x ↦ rw (x.if-meets-3.true, ← x.meets-then-meets-3.ensures, ← x.call_sort-is) (ap Some c.call_sort-in-Three.ensures)
        | else-meets-3 x ↦ rw x.if-meets-3.false (ap Some (rw (x.call_sort-is, x.if-meets-3.false) at c.call_sort-in-Three.ensures))
      ]))
      | else-meets-2 w ↦ rw w.if-meets-2.false ((elim c.if-meets-3.branch [
        | then-meets-3 x ↦ absurd (false≢true (sym w.if-meets-2.false ∙ sym w.value-is ∙ x.if-meets-3.true))
        | else-meets-3 x ↦ ap Some (rw (x.call_sort-is, x.if-meets-3.false) at c.call_sort-in-Three.ensures)
      ]))
    ]))

pub returns-in-Many : goal.returns-in-Many
returns-in-Many c l e = rw (fit_packed, ← e, c.in-Many.is)
