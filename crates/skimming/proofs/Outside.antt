-- What the parentheses that are open make of what is read inside them, and how each token moves on: over plain values.
use Rattle.std.specs.Prelude.{None, Option, Some}
use mathlib.Core.Path.{◌≡◌, refl, sym, ap, ◌∙◌}
use mathlib.Core.List.{List, [], ◌∷◌}
use Prim.Native.Nat.{ℕ, zero, suc}
use Rattle.whole.specs.declared.arithmetic.Operator.{Operator}
use Rattle.words.specs.declared.symbols.Function.{Function}
use Rattle.words.specs.declared.symbols.Scanned.{Scanned}
use Rattle.words.specs.declared.symbols.Sign.TheVariants.{Open, Close, Comma, Minus}
use Rattle.words.specs.declared.symbols.Token.{Token}
use Rattle.words.specs.declared.symbols.Token.TheVariants.{Not, Call, Symbol}
use Rattle.words.proofs.Choices.{by_test}
use Rattle.grammar.specs.Tests.{choose, is_symbol}
use Rattle.grammar.specs.Trees.{Formula, number, minus, complement, Arguments, none, also}
use Rattle.grammar.specs.Functions.{takes}
use Rattle.grammar.specs.Formulas.{not_level, tightest, right_level, minus_stands, not_stands, operator_of, Reading, bad, good, after, closed, called, count_of, enough, formula_at, arguments_at}
use Rattle.skimming.specs.bridge.Remaining.{formula_in, operand_of, arguments_of}
use Rattle.skimming.proofs.Fuel.{operand_by, operand_unrolled, arguments_unrolled, arguments_bad}
use Rattle.skimming.specs.bridge.Flat.{skimmed_of, Opened, plain, of}
use Rattle.skimming.proofs.Chains.{skimmed_mapped, reading, chained, chained_bad, chained_ends, chained_goes, operand_in, formula_operand, formula_loosest}

-- ---- of a function's arguments only their number matters

arguments_nothing : (n : ℕ) (s : List ℕ) (f : Function) (a : Arguments) → arguments_at n s f a bad ≡ bad
unfolding formula_at
arguments_nothing zero s f a = refl
arguments_nothing (suc n) s f a = refl

called_alike : (f : Function) (a b : Arguments) (t : Scanned) → count_of a ≡ count_of b → skimmed_of (called f a t) ≡ skimmed_of (called f b t)
called_alike f a b t e = rw e (by_test (takes f (count_of b)) (λ h. rw h) (λ h. rw h))

-- from one argument on to another that was read
alike : (n : ℕ) (s : List ℕ) (f : Function) (a b : Arguments)
    → ((x y : Formula) (t : Scanned) → skimmed_of (arguments_at n s f a (good x t)) ≡ skimmed_of (arguments_at n s f b (good y t)))
    → (z : Reading) → skimmed_of (arguments_at n s f a z) ≡ skimmed_of (arguments_at n s f b z)
alike n s f a b h bad = rw (arguments_nothing n s f a, arguments_nothing n s f b)
alike n s f a b h (good x t) = h x x t

arguments_alike : (n : ℕ) (s : List ℕ) (f : Function) (a b : Arguments) → count_of a ≡ count_of b → (x y : Formula) (t : Scanned)
    → skimmed_of (arguments_at n s f a (good x t)) ≡ skimmed_of (arguments_at n s f b (good y t))
unfolding formula_at count_of
arguments_alike zero s f a b c x y t = refl
arguments_alike (suc n) s f a b c x y t =
    by_test (is_symbol Comma t.token)
    (λ e. rw e (alike n s f (also a x) (also b y) (arguments_alike n s f (also a x) (also b y) (ap suc c)) (formula_at n s 0 (after s t))))
    λ e. rw e (by_test (is_symbol Close t.token)
    (λ g. rw g (called_alike f (also a x) (also b y) (after s t) (ap suc c)))
    (λ g. rw g))

-- some arguments, so many
unfoldable pub counted : ℕ → Arguments
counted zero = none
counted (suc k) = also (counted k) (number 0)

pub counted_count : (k : ℕ) → count_of (counted k) ≡ k
unfolding counted count_of
counted_count zero = refl
counted_count (suc k) = ap suc (counted_count k)

module _ (s : List ℕ) where
  -- ---- what was opened, made of the formula that is read inside

  abbrev pub ended : Opened → Option Scanned → Option Scanned
  ended plain x = skimmed_of (closed s (reading x))
  ended (of f k) x = skimmed_of (arguments_of s f (counted k) (reading x))

  ended-plain : (x : Reading) → skimmed_of (closed s x) ≡ ended plain (skimmed_of x)
  ended-plain bad = refl
  ended-plain (good f t) = by_test (is_symbol Close t.token) (λ e. rw e) (λ e. rw e)

  ended_call : (f : Function) (a : Arguments) (k : ℕ) (x : Reading) → count_of a ≡ k → skimmed_of (arguments_of s f a x) ≡ ended (of f k) (skimmed_of x)
  unfolding arguments_of
  ended_call f a k bad e = rw (arguments_nothing (enough s) s f a, arguments_nothing (enough s) s f (counted k))
  ended_call f a k (good x t) e = arguments_alike (enough s) s f a (counted k) (e ∙ sym (counted_count k)) x (number 0) t

  ended_bad : (o : Opened) → ended o None ≡ None
  ended_bad plain = refl
  ended_bad (of f k) = rw (arguments_bad s f (counted k))

  -- ---- all that is open

  -- what is left of the whole, where this is left of the innermost formula
  unfoldable pub outside : List Opened → Option Scanned → Option Scanned
  outside [] x = x
  outside (o ∷ os) x = outside os (chained s (ended o x))

  pub outside_nothing : (x : Option Scanned) → outside [] x ≡ x
  unfolding outside
  outside_nothing x = refl

  pub outside_bad : (os : List Opened) → outside os None ≡ None
  unfolding outside
  outside_bad [] = refl
  outside_bad (o ∷ os) = ap (λ x. outside os (chained s x)) (ended_bad o) ∙ ap (outside os) (chained_bad s) ∙ outside_bad os

  -- an operand is wanted, or was read
  abbrev pub wants : List Opened → ℕ → Scanned → Option Scanned
  wants os level t = outside os (operand_in s level t)

  abbrev pub has : List Opened → Scanned → Option Scanned
  has os t = outside os (chained s (Some t))

  -- ---- an operand by its first token, with what follows that

  abbrev pub begins : List Opened → ℕ → Token → Scanned → Option Scanned
  begins os level token u = outside os (chained s (skimmed_of (operand_by s level token u)))

  pub wants-begins : (os : List Opened) (level : ℕ) (t : Scanned) → wants os level t ≡ begins os level t.token (after s t)
  wants-begins os level t = ap (λ x. outside os (chained s (skimmed_of x))) (operand_unrolled s level t)

  pub begins_bad : (os : List Opened) → outside os (chained s None) ≡ None
  begins_bad os = ap (outside os) (chained_bad s) ∙ outside_bad os

  pub begins_open : (os : List Opened) (level : ℕ) (u : Scanned) → begins os level (Symbol Open) u ≡ wants (plain ∷ os) 0 u
  unfolding outside
  begins_open os level u =
      ap (λ x. outside os (chained s x)) (ended-plain (formula_in s 0 u) ∙ ap (ended plain) (formula_loosest s u))

  pub begins_minus : (os : List Opened) (level : ℕ) (u : Scanned) → begins os level (Symbol Minus) u
      ≡ choose (minus_stands level) (λ _. wants os tightest u) (λ _. None)
  begins_minus os level u =
      by_test (minus_stands level)
      (λ e. rw e (ap (λ x. outside os (chained s x)) (skimmed_mapped minus (operand_of s tightest u))))
      (λ e. rw e (begins_bad os))

  pub begins_not : (os : List Opened) (level : ℕ) (u : Scanned) → begins os level Not u
      ≡ choose (not_stands level) (λ _. wants os not_level u) (λ _. None)
  begins_not os level u =
      by_test (not_stands level)
      (λ e. rw e (ap (λ x. outside os (chained s x)) (skimmed_mapped complement (formula_in s not_level u))
      ∙ ap (outside os) (formula_operand s not_level u)))
      (λ e. rw e (begins_bad os))

  pub begins_call : (os : List Opened) (level : ℕ) (f : Function) (u : Scanned) → begins os level (Call f) u
      ≡ choose (is_symbol Open u.token) (λ _. wants (of f 0 ∷ os) 0 (after s u)) (λ _. None)
  unfolding outside count_of
  begins_call os level f u =
      by_test (is_symbol Open u.token)
      (λ e. rw e (ap (λ x. outside os (chained s x))
      (ended_call f none 0 (formula_in s 0 (after s u)) refl ∙ ap (ended (of f 0)) (formula_loosest s (after s u)))))
      (λ e. rw e (begins_bad os))

  -- ---- what follows an operand

  pub has_operator : (os : List Opened) (t : Scanned) {op : Operator} → operator_of t.token ≡ Some op
      → has os t ≡ wants os (right_level op) (after s t)
  has_operator os t {op} e = ap (outside os) (chained_goes s t e ∙ formula_operand s (right_level op) (after s t))

  -- no operator follows
  pub has_end : (os : List Opened) (t : Scanned) → operator_of t.token ≡ None → has os t ≡ outside os (Some t)
  has_end os t e = ap (outside os) (chained_ends s t e)

  pub end_plain : (os : List Opened) (t : Scanned) → outside (plain ∷ os) (Some t)
      ≡ choose (is_symbol Close t.token) (λ _. has os (after s t)) (λ _. None)
  unfolding outside
  end_plain os t = by_test (is_symbol Close t.token) (λ e. rw e) (λ e. rw e (begins_bad os))

  pub end_call : (os : List Opened) (f : Function) (k : ℕ) (t : Scanned) → outside (of f k ∷ os) (Some t)
      ≡ choose (is_symbol Comma t.token) (λ _. wants (of f (suc k) ∷ os) 0 (after s t)) λ _.
      choose (is_symbol Close t.token) (λ _. choose (takes f (suc k)) (λ _. has os (after s t)) (λ _. None)) λ _.
      None
  unfolding outside count_of
  end_call os f k t =
      ap (λ x. outside os (chained s (skimmed_of x))) (arguments_unrolled s f (counted k) (number 0) t)
      ∙ by_test (is_symbol Comma t.token)
      (λ e. rw e (ap (λ x. outside os (chained s x))
      (ended_call f (also (counted k) (number 0)) (suc k) (formula_in s 0 (after s t)) (ap suc (counted_count k))
      ∙ ap (ended (of f (suc k))) (formula_loosest s (after s t)))))
      (λ e. rw e (by_test (is_symbol Close t.token)
      (λ g. rw (g, counted_count k) (by_test (takes f (suc k)) (λ h. rw h) (λ h. rw h (begins_bad os))))
      (λ g. rw g (begins_bad os))))
