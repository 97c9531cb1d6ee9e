-- By whether there is such a row, and then by its verdict.
use mathlib.Core.Path.{sym, ◌∙◌}
use borrow.Author.Tests.{ltb-true, ltb-false}
use Rattle.runner.proofs.Entering.{enter_none, enter_bad, enter_deep, enter_reads}
use Rattle.runner.proofs.standing.entered.Goals as goal

pub returns-then-not-has_row : goal.returns-then-not-has_row
returns-then-not-has_row c = record { rowed = tt; stands = λ text t g m. enter_none t _ (ltb-false _ _ (sym c.has_row.ensures ∙ c.if-not-has_row.true)) m }

pub returns-then-verdict-eq-READS : goal.returns-then-verdict-eq-READS
returns-then-verdict-eq-READS c = let h = ltb-true _ _ (sym c.has_row.ensures ∙ c.if-not-has_row.false) in
    record { rowed = h; stands = λ text t g m. enter_reads t _ h (sym c.verdict_in-verdict.ensures ∙ c.if-verdict-eq-READS.true) m }

pub returns-then-verdict-eq-TOO_DEEP : goal.returns-then-verdict-eq-TOO_DEEP
returns-then-verdict-eq-TOO_DEEP c = let h = ltb-true _ _ (sym c.has_row.ensures ∙ c.if-not-has_row.false) in
    rw c.number_in-number.ensures (record { rowed = tt; stands = λ text t g m. enter_deep t _ h (sym c.verdict_in-verdict.ensures ∙ c.if-verdict-eq-TOO_DEEP.true) m })

pub returns : goal.returns
returns c = let h = ltb-true _ _ (sym c.has_row.ensures ∙ c.if-not-has_row.false) in
    rw c.number_in-number.ensures
    (record {
      rowed = tt;
      stands = λ text t g m. enter_bad t _ h (λ e. c.if-verdict-eq-READS.false (c.verdict_in-verdict.ensures ∙ e)) (λ e. c.if-verdict-eq-TOO_DEEP.false (c.verdict_in-verdict.ensures ∙ e)) m;
    })
