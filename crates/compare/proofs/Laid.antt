-- A record laid over zeros piece by piece, and the records of a turn.
use Rattle.std.specs.Prelude.{None, Some}
use mathlib.Core.Path.{◌≡◌, refl, sym, ap, ◌∙◌}
use mathlib.Core.List.{List, [], ◌∷◌, ◌++◌, append_assoc, append-nil}
use Prim.Native.Nat.{ℕ, ◌+◌, ◌-◌, ◌≤◌, zero-le}
use native.Mathlib.Omega.{arith}
use lib.ListN.{length, take, drop, replicate, length-append, length-replicate, replicate-append-replicate}
use lib.Seq.{drop_at}
use Rattle.whole.specs.Bytes.{bytes}
use Rattle.whole.specs.Texts.{longest_string, held, numeral}
use Rattle.whole.specs.declared.texts.Text.{Text}
use Rattle.whole.proofs.Numerals.{numeral-length, held_front}
use Rattle.space.specs.Moves.{overlaid}
use Rattle.space.proofs.Overlaid.{overlaid-length, overlaid_after}
use Rattle.compare.specs.Records.{word_of, record_of, records_of}
use Rattle.compare.specs.bridge.Turns.{begins, records_in}
use Rattle.compare.specs.declared.merging.Way.{Way}
use Rattle.compare.specs.declared.merging.Way.TheVariants.{Gone, New, Changed}
use Rattle.compare.specs.declared.merging.Difference.{Difference}

-- ---- a held text

-- bytes laid over zeros are a held text
laid_zeros : (l : List ℕ) → length l ≤ longest_string → overlaid (replicate longest_string 0) 0 l ≡ l ++ replicate (longest_string - length l) 0
unfolding overlaid
laid_zeros l h =
    let n = length l in
    let k : n + (longest_string - n) ≡ longest_string = omega arith in
    let e : replicate {A = ℕ} longest_string 0 ≡ replicate n 0 ++ replicate (longest_string - n) 0
    = sym (replicate-append-replicate n (longest_string - n) 0 ∙ ap (λ x. replicate x 0) k) in
    let z : 0 + n ≡ n = omega arith in
    ap (λ m. l ++ drop m (replicate {A = ℕ} longest_string 0)) z
    ∙ ap (λ s. l ++ drop n s) e
    ∙ ap (λ s. l ++ s) (drop_at (replicate n 0) (replicate (longest_string - n) 0) n (length-replicate n 0))

pub laid_text : (l : List ℕ) {s : List ℕ} {n : ℕ} → length l ≤ longest_string → s ≡ overlaid (replicate longest_string 0) 0 l → n ≡ length l
    → ◌≡◌ {A = Text} (record { bytes = s; len = n }) (held l)
unfolding held
laid_text l h e f = rw (e, f, laid_zeros l h)

-- ---- a record

-- a word has at most seven bytes, and a tab
pub begins-length : (way : Way) → length (begins way) ≤ 8
unfolding bytes
begins-length Gone = omega arith
begins-length New = omega arith
begins-length Changed = omega arith

pub record_parts : (d : Difference) → record_of d ≡ begins d.way ++ (numeral 10 5 d.number.0 ++ (10 ∷ []))
unfolding record_of
record_parts d = sym (append_assoc (word_of d.way) (9 ∷ []) (numeral 10 5 d.number.0 ++ (10 ∷ [])))

-- so a record has at most fourteen bytes
pub record_length : (d : Difference) → length (record_of d) ≡ length (begins d.way) + length (numeral 10 5 d.number.0) + 1
record_length d =
    let w = begins d.way in
    let n = numeral 10 5 d.number.0 in
    ap length (record_parts d) ∙ length-append w (n ++ (10 ∷ [])) ∙ (omega (arith, length-append n (10 ∷ [])))

pub record_short : (d : Difference) → length (record_of d) ≤ longest_string
record_short d = omega (arith, record_length d, begins-length d.way, numeral-length 10 5 d.number.0)

-- the zeros have room for the word
pub word_fits : (way : Way) {w : List ℕ} → w ≡ begins way → 0 + length w ≤ length (replicate {A = ℕ} longest_string 0)
word_fits way e = omega (arith, ap length e, begins-length way, length-replicate {0} {A = ℕ} longest_string 0)

pub word_leaves : (way : Way) {w s : List ℕ} → w ≡ begins way → s ≡ overlaid (replicate longest_string 0) 0 w → length s ≡ longest_string
word_leaves way {w} e f =
    ap length f ∙ overlaid-length (replicate longest_string 0) 0 w (word_fits way e) ∙ length-replicate {0} {A = ℕ} longest_string 0

-- the digits alone
pub digits_shown : {t : Text} (l : List ℕ) {k : ℕ} → t ≡ held l → k ≡ t.len → take k t.bytes ≡ l
digits_shown {t} l e f = ap (λ n. take n t.bytes) f ∙ held_front l e

-- the word and the digits leave room for the end
pub before_end : (d : Difference) {w shown : List ℕ} {a : ℕ} → w ≡ begins d.way → shown ≡ numeral 10 5 d.number.0 → a ≡ 0 + length w
    → a + length shown ≤ 13
before_end d e f g = omega (arith, ap length e, ap length f, begins-length d.way, numeral-length 10 5 d.number.0)

-- three parts laid one after the other
pub laid_three : (s a b c : List ℕ) → overlaid (overlaid (overlaid s 0 a) (0 + length a) b) (0 + length a + length b) c ≡ overlaid s 0 (a ++ (b ++ c))
laid_three s a b c =
    let k : 0 + length a + length b ≡ 0 + length (a ++ b) = omega (arith, length-append a b) in
    ap (λ x. overlaid x (0 + length a + length b) c) (overlaid_after s 0 a b zero-le)
    ∙ ap (λ n. overlaid (overlaid s 0 (a ++ b)) n c) k
    ∙ overlaid_after s 0 (a ++ b) c zero-le
    ∙ ap (overlaid s 0) (append_assoc a b c)

-- the word, the digits and the end, one after the other, are the record
pub record_laid : (d : Difference) {w s t u shown : List ℕ} {a b n : ℕ} → w ≡ begins d.way → shown ≡ numeral 10 5 d.number.0
    → a ≡ 0 + length w → s ≡ overlaid (replicate longest_string 0) 0 w
    → b ≡ a + length shown → t ≡ overlaid s a shown
    → n ≡ b + 1 → u ≡ overlaid t b (10 ∷ [])
    → ◌≡◌ {A = Text} (record { bytes = u; len = n }) (held (record_of d))
record_laid d {w} {s} {t} {u} {shown} {a} {b} {n} ew i ea es eb et en eu =
    let all : u ≡ overlaid (overlaid (overlaid (replicate longest_string 0) 0 w) (0 + length w) shown) (0 + length w + length shown) (10 ∷ [])
    = eu ∙ rw (et, eb, es, ea) in
    let parts : w ++ (shown ++ (10 ∷ [])) ≡ record_of d = rw (ew, i) (sym (record_parts d)) in
    laid_text (record_of d) (record_short d)
    (all ∙ laid_three (replicate longest_string 0) w shown (10 ∷ []) ∙ ap (overlaid (replicate longest_string 0) 0) parts)
    (omega (arith, record_length d, ap length ew, ap length i))

-- ---- the records of a turn

pub records_none : records_in None ≡ []
unfolding records_of
records_none = refl

pub records_one : (d : Difference) → records_in (Some d) ≡ record_of d
unfolding records_of
records_one d = append-nil (record_of d)
