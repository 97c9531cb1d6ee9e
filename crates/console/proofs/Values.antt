-- Digits read one at a time, and no further than a limit.
use mathlib.Core.Path.{◌≡◌, refl, sym, ap, ◌∙◌}
use mathlib.Core.Bool.{Bool, true, false, cond}
use mathlib.Core.List.{List, [], ◌∷◌, ◌++◌}
use Prim.Native.Nat.{ℕ, ◌+◌, ◌-◌, ◌*◌, ◌≤◌, ◌<◌}
use native.Mathlib.Nat.{le_refl}
use native.Mathlib.Omega.{arith}
use borrow.Author.Tests.{eq-eqb, ne_eqb, lt-ltb, le-ltb, ltb-false}
use lib.Dec.{eqb, ltb}
use lib.ListN.{length, get_or, take, drop, take-append-drop}
use lib.Seq.{take_all}
use Rattle.whole.specs.Digits.{leading_digits, value_from}
use Rattle.whole.proofs.Reading.{take_next, value_more}
use Rattle.console.specs.Arguments.{number_given, Limited}
use Rattle.std.specs.Prelude.{Ok, Err}
use Rattle.console.specs.declared.arguments.BadNumber.TheVariants.{TooLarge, NoNumber}

-- digits that follow make a value no smaller
grows : (v : ℕ) (s : List ℕ) → v ≤ value_from v s
unfolding value_from
grows v [] = le_refl v
grows v (d ∷ s) = omega (arith, grows (v * 10 + (d - 48)) s)

value_append : (v : ℕ) (s t : List ℕ) → value_from v (s ++ t) ≡ value_from (value_from v s) t
unfolding value_from
value_append v [] t = refl
value_append v (d ∷ s) t = value_append (v * 10 + (d - 48)) s t

-- the first i digits are worth no more than all
pub front_value : (s : List ℕ) (i : ℕ) → value_from 0 (take i s) ≤ value_from 0 s
front_value s i =
    let e : value_from (value_from 0 (take i s)) (drop i s) ≡ value_from 0 s = sym (value_append 0 (take i s) (drop i s)) ∙ ap (value_from 0) (take-append-drop i s) in
    omega (arith, e, grows (value_from 0 (take i s)) (drop i s))

-- one digit more
pub next_value : (s : List ℕ) (i v : ℕ) → i < length s → v ≡ value_from 0 (take i s)
    → v * 10 + (get_or s i 0 - 48) ≡ value_from 0 (take (i + 1) s)
next_value s i v h e = rw (e, take_next s i h, value_more)

-- at the end it is the value of all
pub whole_value : (s : List ℕ) (i v : ℕ) → length s ≤ i → v ≡ value_from 0 (take i s) → v ≡ value_from 0 s
whole_value s i v h e = e ∙ ap (value_from 0) (take_all i s h)

-- ---- what a text gives, in the order of the tests

module _ (s : List ℕ) (most : ℕ) where
  pub no_digit : length (leading_digits s) ≡ 0 → Err NoNumber ≡ number_given s most
  unfolding number_given
  no_digit e = rw (eq-eqb (length (leading_digits s)) 0 e)

  module _ (some : length (leading_digits s) ≡ 0 → ⊥) where
    pub not_digits_alone : length (leading_digits s) < length s → Err NoNumber ≡ number_given s most
    unfolding number_given
    not_digits_alone h = rw (ne_eqb (length (leading_digits s)) 0 some, lt-ltb (length (leading_digits s)) (length s) h)

    module _ (alone : length s ≤ length (leading_digits s)) where
      pub over_limit : most < value_from 0 s → Err TooLarge ≡ number_given s most
      unfolding number_given
      over_limit h =
          rw (ne_eqb (length (leading_digits s)) 0 some, le-ltb (length (leading_digits s)) (length s) alone, lt-ltb most (value_from 0 s) h)

      pub within_limit : (v : ℕ) → v ≤ most → v ≡ value_from 0 s → Ok v ≡ number_given s most
      unfolding number_given
      within_limit v h e =
          rw (ne_eqb (length (leading_digits s)) 0 some, le-ltb (length (leading_digits s)) (length s) alone, e, le-ltb most (value_from 0 s) (omega arith))

  limited_if : (t : Bool) → ltb most (value_from 0 s) ≡ t → Limited (cond t (Err TooLarge) (Ok (value_from 0 s))) most
  limited_if true e = tt
  limited_if false e = ltb-false most (value_from 0 s) e

  limited_in : (a b : Bool) → Limited (cond a (Err NoNumber) (cond b (Err NoNumber) (cond (ltb most (value_from 0 s)) (Err TooLarge) (Ok (value_from 0 s))))) most
  limited_in true b = tt
  limited_in false true = tt
  limited_in false false = limited_if (ltb most (value_from 0 s)) refl

  -- a number that is given is within its limit
  pub given_limited : Limited (number_given s most) most
  unfolding number_given
  given_limited = limited_in (eqb (length (leading_digits s)) 0) (ltb (length (leading_digits s)) (length s))
