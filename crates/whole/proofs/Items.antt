-- An item of DATA that is a number begins with a sign or a digit.
use mathlib.Core.Path.{◌≡◌, refl}
use mathlib.Core.Logic.{◌⊎◌, ⊎_elim}
use mathlib.Core.Bool.{Bool, true, false, false≢true}
use mathlib.Core.List.{List, [], ◌∷◌}
use Prim.Native.Nat.{ℕ, ◌≤◌}
use native.Mathlib.Omega.{arith}
use borrow.Author.Tests.{lt-ltb, eq-eqb, ne_eqb, eqb-true}
use lib.ListN.{length, get_or, drop}
use Rattle.whole.specs.Bytes.{is, leading}
use Rattle.whole.specs.Digits.{is_digit, blanks_of, val_of, signed_value, sign_length, digits_only}

-- a sign is the first byte
pub sign_first : (s : List ℕ) → 1 ≤ length s → (get_or s 0 0 ≡ 45) ⊎ (get_or s 0 0 ≡ 43) → sign_length s ≡ 1
unfolding sign_length
sign_first [] h e = absurd (omega arith)
sign_first (b ∷ s) h e = ⊎_elim (λ m. rw (eq-eqb b 45 m)) (λ p. rw p) e

pub no_sign : (s : List ℕ) → (1 ≤ length s → get_or s 0 0 ≡ 45 → ⊥) → (1 ≤ length s → get_or s 0 0 ≡ 43 → ⊥) → sign_length s ≡ 0
unfolding sign_length
no_sign [] m p = refl
no_sign (b ∷ s) m p = rw (ne_eqb b 45 (m (omega arith)), ne_eqb b 43 (p (omega arith)))

-- a blank is neither a sign nor a digit
blank_first : (s : List ℕ) → digits_only (drop (sign_length (32 ∷ s)) (32 ∷ s)) ≡ false
unfolding sign_length digits_only leading is_digit
blank_first s = rw (lt-ltb 0 (length (32 ∷ s)) (omega arith), ne_eqb 0 (length (32 ∷ s)) (λ e. omega arith))

no_blank : (b : ℕ) (s : List ℕ) (t : Bool) → is " " b ≡ t → digits_only (drop (sign_length (b ∷ s)) (b ∷ s)) ≡ true → t ≡ false
no_blank b s true f e = let z : b ≡ 32 = eqb-true b 32 f in absurd (false≢true (rw (z, blank_first s) at e))
no_blank b s false f e = refl

-- so VAL skips nothing of it
pub no_blanks : (s : List ℕ) → digits_only (drop (sign_length s) s) ≡ true → blanks_of s ≡ 0
unfolding leading
no_blanks [] e = refl
no_blanks (b ∷ s) e = rw (no_blank b s (is " " b) refl e)

pub val_whole : (s : List ℕ) → digits_only (drop (sign_length s) s) ≡ true → val_of s ≡ signed_value s
val_whole s e = rw (no_blanks s e)
