-- One law for each answer, over the digits that the text begins with.
use Rattle.std.proofs.Common.{◌≡◌, ℕ, ◌≤◌, ◌<◌, List, Option, Some, None, MatchOption, sym, ap, ◌∙◌, length, arith}
use Rattle.std.specs.Option.{ok_or}
use Rattle.whole.specs.Digits.{leading_digits, digits_of, value_from}
use Rattle.whole.specs.declared.digits.Digits.{Digits}
use Rattle.console.specs.Arguments.{number_given}
use Rattle.console.specs.declared.arguments.BadNumber.TheVariants.{TooLarge}
use Rattle.console.proofs.Values.{no_digit, not_digits_alone, over_limit, within_limit}
use Rattle.console.proofs.arguments.number_given.Goals as goal
use Rattle.console.proofs.arguments.number_given.Goals.{then-count-eq0-via-then-count-eq0, then-count-eq0-via-else-count-eq0+then-count-text}

counted : (s : _) {d : Digits} → d ≡ digits_of s → d.count ≡ length (leading_digits s)
unfolding digits_of
counted s e = ap (λ (d : Digits). d.count) e

module _ (s : List ℕ) (most : ℕ) (some : length (leading_digits s) ≡ 0 → ⊥) (alone : length s ≤ length (leading_digits s)) where
  by_value : (o : Option ℕ) → MatchOption o (most < value_from 0 s) (λ v. (v ≤ most) × (v ≡ value_from 0 s))
      → ok_or o TooLarge ≡ number_given s most
  by_value None h = over_limit s most some alone h
  by_value (Some v) h = within_limit s most some alone v h.0 h.1

pub returns-then-count-eq0 : goal.returns-then-count-eq0
returns-then-count-eq0 c =
    let n = counted _ c.leading_digits-count.ensures in
    elim c.then-count-eq0.branch [
      | then-count-eq0-via-then-count-eq0 w ↦ no_digit _ _ (sym n ∙ w.if-count-eq0.true)
      | then-count-eq0-via-else-count-eq0+then-count-text w ↦ not_digits_alone _ _ (λ e. w.if-count-eq0.false (n ∙ e)) (omega (arith, n, w.if-count-text.true))
    ]

pub returns : goal.returns
returns c =
    let n = counted _ c.leading_digits-count.ensures in
    c.ok_or.ensures.value
    ∙ by_value _ _ (λ e. c.if-count-eq0.false (n ∙ e)) (omega (arith, n, c.if-count-text.false)) c.value_up_to.result c.value_up_to.ensures
