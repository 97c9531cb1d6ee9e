use mathlib.Core.Path.{refl, sym, ap, ◌∙◌}
use native.Mathlib.Omega.{arith}
use Rattle.whole.specs.Whole.{applied}
use Rattle.whole.specs.declared.arithmetic.Operator.TheVariants.{Add}
use Rattle.control.proofs.Nexts.{next_fault, next_ends, next_again}
use Rattle.control.proofs.looping.turn.Goals as goal

pub returns-then-passed-clause-does : goal.returns-then-passed-clause-does
returns-then-passed-clause-does c = λ text input space room test only sound p.
    rw (c.goes_on.ensures, c.set_word.ensures)
    (next_ends text c.args.entry test _ only sound c.args.slot c.requires c.in-Ok.word
    (ap (λ z. applied Add z c.args.entry.step) (sym c.word_at.ensures) ∙ sym c.apply.ensures ∙ c.in-Ok.is)
    _ p refl (sym c.passed.ensures ∙ c.if-passed.true))

pub overflow_add-m : goal.overflow_add-m
overflow_add-m c = omega (arith, c.requires, c.well_formed)

pub returns-in-Err-clause-does : goal.returns-in-Err-clause-does
returns-in-Err-clause-does c = λ text input space room test only sound p.
    rw c.fails.ensures
    (next_fault text c.args.entry test _ only sound c.args.slot c.requires
    (ap (λ z. applied Add z c.args.entry.step) (sym c.word_at.ensures) ∙ sym c.apply.ensures ∙ c.in-Err.is))

pub returns-else-passed-clause-does : goal.returns-else-passed-clause-does
returns-else-passed-clause-does c = λ text input space room test only sound p.
    rw (c.turned_to.ensures, c.back.ensures, c.set_word.ensures)
    (next_again text c.args.entry test _ only sound c.args.slot c.requires c.in-Ok.word
    (ap (λ z. applied Add z c.args.entry.step) (sym c.word_at.ensures) ∙ sym c.apply.ensures ∙ c.in-Ok.is)
    (sym c.passed.ensures ∙ c.if-passed.false))

pub returns-then-passed-clause-kept : goal.returns-then-passed-clause-kept
returns-then-passed-clause-kept c = rw c.set_word.ensures (refl, (refl, refl))

pub returns-else-passed-clause-kept : goal.returns-else-passed-clause-kept
returns-else-passed-clause-kept c = rw c.set_word.ensures (refl, (refl, refl))
