-- Hexadecimal digits: up to the byte of 9 they are digits, and above it they are letters from A to F.
use mathlib.Core.Path.{◌≡◌, sym, ◌∙◌}
use mathlib.Core.Bool.{true, false, and-false, or-false}
use mathlib.Core.List.{List}
use Prim.Native.Nat.{ℕ, ◌+◌, ◌-◌, ◌≤◌, ◌<◌}
use native.Mathlib.Omega.{arith}
use borrow.Author.Tests.{lt-leb, leb-true}
use lib.Dec.{leb}
use lib.ListN.{length, get_or}
use Rattle.whole.specs.Digits.{is_digit}
use Rattle.words.specs.Classes.{capital_of, is_hex, hex_digit}
use Rattle.words.proofs.Choices.{both}
use Rattle.words.proofs.Runs.{in_line}

-- the H before them stands within the line
pub h_in_line : (s : List ℕ) (i : ℕ) → capital_of (get_or s i 0) ≡ 72 → i < length s
unfolding capital_of
h_in_line s i e = in_line capital_of s i (λ z. let y : ◌≡◌ {A = ℕ} 72 0 = sym e ∙ z in omega arith)

no_digit : (b : ℕ) → 57 < b → is_digit b ≡ false
unfolding is_digit
no_digit b h = rw (lt-leb b 57 h) (and-false (leb 48 b))

module _ (b : ℕ) (hex : is_hex b ≡ true) where
  -- up to the byte of 9
  pub hex_low : b ≤ 57 → is_digit b ≡ true
  unfolding is_hex capital_of
  hex_low h = rw (lt-leb 97 b (omega arith), lt-leb 65 b (omega arith), or-false) at hex

  -- above it
  pub hex_high : 57 < b → (65 ≤ capital_of b) × (capital_of b ≤ 70)
  unfolding is_hex
  hex_high h =
      let t = both (leb 65 (capital_of b)) (leb (capital_of b) 70) (rw (no_digit b h) at hex) in
      (leb-true _ _ t.0, leb-true _ _ t.1)

  pub hex_letter : 57 < b → hex_digit b ≡ capital_of b - 65 + 10
  unfolding hex_digit
  hex_letter h = rw (no_digit b h)
