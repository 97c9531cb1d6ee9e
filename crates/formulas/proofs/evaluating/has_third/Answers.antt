-- Where the call reads, so do its first two arguments, and what follows the second tells.
use mathlib.Core.Path.{sym, ◌∙◌}
use Rattle.formulas.proofs.Thirds.{first_reads, second_reads, third_told}
use Rattle.formulas.proofs.evaluating.has_third.Goals as goal

pub returns-in_default : goal.returns-in_default
returns-in_default c a u e = absurd (first_reads _ _ e (sym c.in_default.is ∙ c.skim.ensures))

pub returns-in_default-skim : goal.returns-in_default-skim
returns-in_default-skim c a u e = absurd (second_reads _ _ e (sym c.in-Some.is ∙ c.skim.ensures)
    (sym c.in_default-skim.is ∙ (rw c.token_at-second.ensures at c.skim-2.ensures)))

pub returns : goal.returns
returns c a u e = c.is_symbol.ensures
    ∙ third_told _ _ e (sym c.in-Some.is ∙ c.skim.ensures)
    (sym c.in-Some-skim.is ∙ (rw c.token_at-second.ensures at c.skim-2.ensures))
