-- What is left of a formula's reading where only the token that follows it counts: then every operator continues what was read,
-- whatever its level, since the levels outside take what the tighter ones leave.
use Rattle.std.specs.Prelude.{None, Option, Some}
use mathlib.Core.Path.{◌≡◌, refl, sym, ap, ◌∙◌}
use mathlib.Core.List.{List}
use Prim.Native.Nat.{ℕ, zero, suc, ◌≤◌, ◌<◌}
use native.Mathlib.Omega.{arith}
use borrow.Author.Tests.{le-leb}
use lib.Dec.{leb}
use Rattle.whole.specs.declared.arithmetic.Operator.{Operator}
use Rattle.whole.proofs.Never.{never}
use Rattle.words.specs.declared.symbols.Scanned.{Scanned}
use Rattle.words.proofs.Choices.{by_test}
use Rattle.grammar.specs.Trees.{Formula, number, two_sided}
use Rattle.grammar.specs.Formulas.{level_of, right_level, operator_of, tight_enough, tight_operator, Reading, bad, good, mapped, after, enough, formula_at, climb_at}
use Rattle.skimming.specs.bridge.Remaining.{weight, formula_in, climb_of, operand_of}
use Rattle.skimming.proofs.Weights.{operator_reads, after_lighter}
use Rattle.skimming.proofs.Grammar.{by_found, Lighter, formula_lightens}
use Rattle.skimming.proofs.Fuel.{rest, formula_unrolled, climb_unrolled, climb_bad}
use Rattle.skimming.specs.bridge.Flat.{skimmed_of}

-- ---- what was read does not matter for what follows

pub skimmed_mapped : (make : Formula → Formula) (x : Reading) → skimmed_of (mapped make x) ≡ skimmed_of x
skimmed_mapped make bad = refl
skimmed_mapped make (good f t) = refl

mapped_alike : (climb : Reading → Reading) → ((f g : Formula) (t : Scanned) → skimmed_of (climb (good f t)) ≡ skimmed_of (climb (good g t)))
    → (make remake : Formula → Formula) (x : Reading) → skimmed_of (climb (mapped make x)) ≡ skimmed_of (climb (mapped remake x))
mapped_alike climb h make remake bad = refl
mapped_alike climb h make remake (good f t) = h (make f) (remake f) t

climb_alike : (n : ℕ) (s : List ℕ) (level : ℕ) (f g : Formula) (t : Scanned)
    → skimmed_of (climb_at n s level (good f t)) ≡ skimmed_of (climb_at n s level (good g t))
unfolding formula_at
climb_alike zero s level f g t = refl
climb_alike (suc n) s level f g t =
    by_found (tight_operator level t.token)
    (λ op e. rw e (mapped_alike (climb_at n s level) (climb_alike n s level) (two_sided op f) (two_sided op g) (formula_at n s (right_level op) (after s t))))
    (λ e. rw e)

-- ---- a chain: an operand that was read, and every operator that follows with its right side

-- some reading of which this is left
abbrev pub reading : Option Scanned → Reading
reading None = bad
reading (Some t) = good (number 0) t

-- an operator of any level is one of the loosest level or a tighter one
pub loosest : (o : Option Operator) → tight_enough 0 o ≡ o
loosest (Some op) = rw (le-leb 0 (level_of op) (omega arith))
loosest None = refl

-- an operator of a level is that operator
tight : (level : ℕ) (o : Option Operator) (op : Operator) → tight_enough level o ≡ Some op → o ≡ Some op
tight level (Some p) op e =
    by_test (leb level (level_of p))
    (λ t. rw t at e)
    (λ t. let h = rw t at e in never (cc))
tight level None op e = never (cc)

-- what follows a formula weighs no more than its first token
rest_formula : (s : List ℕ) (w : ℕ) (make : Formula → Formula) (x : Reading) → Lighter s w x → rest s (mapped make x) ≤ w
rest_formula s w make bad l = omega arith
rest_formula s w make (good f u) l = omega arith

module _ (s : List ℕ) where
  abbrev pub chained : Option Scanned → Option Scanned
  chained x = skimmed_of (climb_of s 0 (reading x))

  pub chained_of : (x : Reading) → skimmed_of (climb_of s 0 x) ≡ chained (skimmed_of x)
  unfolding climb_of
  chained_of bad = refl
  chained_of (good f t) = climb_alike (enough s) s 0 f (number 0) t

  pub chained_bad : chained None ≡ None
  chained_bad = rw (climb_bad s 0)

  -- no operator follows
  pub chained_ends : (t : Scanned) → operator_of t.token ≡ None → chained (Some t) ≡ Some t
  chained_ends t e = rw (climb_unrolled s 0 (number 0) t, loosest (operator_of t.token), e)

  -- an operator follows
  pub chained_goes : (t : Scanned) {op : Operator} → operator_of t.token ≡ Some op
      → chained (Some t) ≡ chained (skimmed_of (formula_in s (right_level op) (after s t)))
  chained_goes t {op} e =
      let x = formula_in s (right_level op) (after s t) in
      let u : skimmed_of (climb_of s 0 (good (number 0) t)) ≡ skimmed_of (climb_of s 0 (mapped (two_sided op (number 0)) x)) =
      rw (climb_unrolled s 0 (number 0) t, loosest (operator_of t.token), e) in
      u
      ∙ chained_of (mapped (two_sided op (number 0)) x)
      ∙ ap chained (skimmed_mapped (two_sided op (number 0)) x)

  -- what a tighter level takes, the chain would take
  absorbs : (n level : ℕ) (x : Reading) → rest s x < n → chained (skimmed_of (climb_of s level x)) ≡ chained (skimmed_of x)
  unfolding formula_in
  absorbs zero level x h = absurd (omega arith)
  absorbs (suc n) level bad h = rw (climb_bad s level)
  absorbs (suc n) level (good f t) h =
      by_found (tight_operator level t.token)
      (λ op e.
      let x = formula_in s (right_level op) (after s t) in
      let y = mapped (two_sided op f) x in
      let g = after_lighter s t (operator_reads level t.token e) in
      let l = rest_formula s (weight s (after s t)) (two_sided op f) x (formula_lightens (enough s) s (right_level op) (after s t)) in
      rw (climb_unrolled s level f t, e)
      (absorbs n level y (omega arith) ∙ ap chained (skimmed_mapped (two_sided op f) x) ∙ sym (chained_goes t (tight level (operator_of t.token) op e))))
      (λ e. rw (climb_unrolled s level f t, e))

  pub chained_tighter : (level : ℕ) (x : Reading) → chained (skimmed_of (climb_of s level x)) ≡ chained (skimmed_of x)
  chained_tighter level x = absorbs (suc (rest s x)) level x (omega arith)

  -- ---- what is wanted of an operand, and what it and all that follows it in the same parentheses leave

  abbrev pub operand_in : ℕ → Scanned → Option Scanned
  operand_in level t = chained (skimmed_of (operand_of s level t))

  pub formula_operand : (level : ℕ) (t : Scanned) → chained (skimmed_of (formula_in s level t)) ≡ operand_in level t
  formula_operand level t =
      ap (λ x. chained (skimmed_of x)) (formula_unrolled s level t) ∙ chained_tighter level (operand_of s level t)

  pub formula_loosest : (t : Scanned) → skimmed_of (formula_in s 0 t) ≡ operand_in 0 t
  formula_loosest t = ap skimmed_of (formula_unrolled s 0 t) ∙ chained_of (operand_of s 0 t)

  pub chained_twice : (x : Option Scanned) → chained (chained x) ≡ chained x
  chained_twice None = chained_tighter 0 bad
  chained_twice (Some t) = chained_tighter 0 (good (number 0) t)
