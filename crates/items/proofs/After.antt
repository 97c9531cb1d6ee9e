-- The token that follows the items: a colon, or the line's end.
use mathlib.Core.Path.{◌≡◌, refl, sym, ap, ◌∙◌}
use mathlib.Core.Logic.{◌⊎◌, inl, inr, ⊎_elim}
use mathlib.Core.Bool.{false}
use mathlib.Core.List.{List, ◌∷◌}
use Prim.Native.Nat.{ℕ, ◌+◌, ◌≤◌}
use native.Mathlib.Omega.{arith}
use lib.ListN.{length, get_or, drop}
use Rattle.whole.specs.Bytes.{is, bytes}
use Rattle.whole.specs.Digits.{is_digit, blanks_of}
use Rattle.whole.proofs.Reading.{drop_next}
use Rattle.words.specs.Places.{place}
use Rattle.words.specs.Spellings.{same_bytes, meaning}
use Rattle.words.specs.Classes.{capital_of, is_letter, signs, pairs, class_of}
use Rattle.words.specs.declared.symbols.Sign.TheVariants.{Colon}
use Rattle.words.specs.declared.symbols.Token.TheVariants.{EndOfLine, Symbol}
use Rattle.words.proofs.Runs.{in_line, run_stops, run_past}
use Rattle.scanner.specs.Tokens.{◌upto◌, sign_token, begun, token_at}
use Rattle.scanner.proofs.Beginnings.{ends_here, begins_here}
use Rattle.items.proofs.Inside.{Over}

-- at a colon and at an apostrophe, whatever follows them
colon_token : (s : List ℕ) (i end : ℕ) → begun (class_of 58) end i (58 ∷ s) ≡ (Symbol Colon upto (i + 1))
unfolding bytes same_bytes meaning capital_of is_letter is_digit signs pairs class_of sign_token
colon_token s i end = refl

remark_token : (s : List ℕ) (i end : ℕ) → begun (class_of 39) end i (39 ∷ s) ≡ (EndOfLine upto end)
unfolding bytes same_bytes meaning capital_of is_letter is_digit signs pairs class_of
remark_token s i end = refl

module _ (line : List ℕ) (i : ℕ) where
  -- a byte that is no blank stands where the token begins
  at_byte : (b : ℕ) → get_or line i 0 ≡ b → (b ≡ 0 → ⊥) → is " " b ≡ false → token_at line (place i) ≡ begun (class_of b) (length line) i (b ∷ drop (i + 1) line)
  at_byte b e z n =
      let h = in_line (λ x. x) line i (λ o. z (sym e ∙ o)) in
      let k : blanks_of (drop i line) ≡ 0 = run_stops (is " ") line i h (ap (is " ") e ∙ n) in
      begins_here line (place i) i (omega arith) h ∙ rw (e, drop_next line i h, e)

  -- where a statement is over, the line ends or a colon stands
  pub over_token : i ≤ length line → Over line i → (token_at line (place i) ≡ (EndOfLine upto length line)) ⊎ (token_at line (place i) ≡ (Symbol Colon upto (i + 1)))
  over_token h o =
      ⊎_elim
      (λ l. let k : blanks_of (drop i line) ≡ 0 = run_past (is " ") line i l in inl (ends_here line (place i) i (omega arith) l))
      (λ b. ⊎_elim
      (λ e. inr (at_byte 58 e (λ z. omega arith) refl ∙ colon_token (drop (i + 1) line) i (length line)))
      (λ e. inl (at_byte 39 e (λ z. omega arith) refl ∙ remark_token (drop (i + 1) line) i (length line)))
      b)
      o
