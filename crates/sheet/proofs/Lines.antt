-- The lines of a sheet by their bytes alone, and how they begin where the front of one is held already.
use mathlib.Core.Path.{◌≡◌, refl, ap, ◌∙◌}
use mathlib.Core.Bool.{Bool, true, false, cond}
use mathlib.Core.List.{List, [], ◌∷◌, ◌++◌, map}
use Prim.Native.Nat.{ℕ, ◌+◌}
use lib.Dec.{eqb}
use Rattle.words.proofs.Choices.{by_test}
use Rattle.std.specs.List.{onto_first}
use Rattle.std.proofs.Math.Bool.{and-false}
use Rattle.loader.specs.Lines.{Line, ends_line, dropped, in_front, started_at, with_byte, lines_from}
use Rattle.sheet.specs.bridge.Taking.{kept}

-- ---- without their places

abbrev bytes_in : List Line → List (List ℕ)
bytes_in ls = map (λ (l : Line). l.bytes) ls

-- a byte, whether it is a byte 13 to drop, and the lines that follow
abbrev front : ℕ → Bool → List (List ℕ) → List (List ℕ)
front b drops ls = cond (ends_line b) ([] ∷ ls) (cond drops ls (onto_first b ls))

unfoldable pub line_bytes : List ℕ → List (List ℕ)
line_bytes [] = []
line_bytes (b ∷ t) = front b (dropped b t) (line_bytes t)

module _ (p b : ℕ) where
  started : (ls : List Line) → bytes_in (started_at p ls) ≡ bytes_in ls
  started [] = refl
  started (l ∷ ls) = refl

  begins : (ls : List Line) → bytes_in (in_front p b ls) ≡ onto_first b (bytes_in ls)
  begins [] = refl
  begins (l ∷ ls) = refl

  front_bytes : (drops : Bool) (ls : List Line) → bytes_in (with_byte p b drops ls) ≡ front b drops (bytes_in ls)
  front_bytes true ls = by_test (ends_line b) (λ t. rw t) (λ t. rw t (started ls))
  front_bytes false ls = by_test (ends_line b) (λ t. rw t) (λ t. rw t (begins ls))

pub line_bytes_lem : (p : ℕ) (s : List ℕ) → bytes_in (lines_from p s) ≡ line_bytes s
unfolding lines_from line_bytes
line_bytes_lem p [] = refl
line_bytes_lem p (b ∷ t) =
    front_bytes p b (dropped b t) (lines_from (p + 1) t) ∙ ap (front b (dropped b t)) (line_bytes_lem (p + 1) t)

-- ---- with the front of a line

-- no byte of it ends a line
abbrev pub NoEnd : List ℕ → Type 0
NoEnd [] = Unit {0}
NoEnd (b ∷ s) = (ends_line b ≡ false) × NoEnd s

pub no_end_more : (l : List ℕ) (b : ℕ) → NoEnd l → ends_line b ≡ false → NoEnd (l ++ (b ∷ []))
no_end_more [] b h e = (e, tt)
no_end_more (c ∷ l) b h e = (h.0, no_end_more l b h.1 e)

-- a byte 13 that no byte 10 follows is not dropped
stays : (b c : ℕ) (t : List ℕ) → ends_line c ≡ false → dropped b (c ∷ t) ≡ false
stays b c t e = rw e (and-false (eqb b 13))

-- byte 10 ends it
pub line_ended : (l t : List ℕ) → NoEnd l → line_bytes (l ++ (10 ∷ t)) ≡ kept l ∷ line_bytes t
unfolding line_bytes kept
line_ended [] t h = refl
line_ended (b ∷ []) t h = rw h.0 (by_test (eqb b 13) (λ e. rw e) (λ e. rw e))
line_ended (b ∷ c ∷ l) t h = rw (h.0, stays b c (l ++ (10 ∷ t)) h.1.0, line_ended (c ∷ l) t h.1)

-- the last may lack its end
pub line_last : (b : ℕ) (l : List ℕ) → NoEnd (b ∷ l) → line_bytes (b ∷ l) ≡ (b ∷ l) ∷ []
unfolding line_bytes
line_last b [] h = rw h.0
line_last b (c ∷ l) h = rw (h.0, stays b c l h.1.0, line_last c l h.1)
