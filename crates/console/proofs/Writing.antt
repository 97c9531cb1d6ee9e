-- A line that grows by bytes and by numbers in digits.
use mathlib.Core.Path.{◌≡◌, sym, ap, ◌∙◌}
use mathlib.Core.List.{List, [], ◌∷◌, ◌++◌, append_assoc}
use Prim.Native.Nat.{ℕ, ◌+◌, ◌*◌, ◌≤◌, ◌<◌, suc-le-suc}
use native.Mathlib.Omega.{arith}
use lib.ListN.{length, get_or, drop, length-append}
use Rattle.whole.specs.Texts.{held, with_byte, with_bytes}
use Rattle.whole.specs.declared.texts.Text.{Text}
use Rattle.whole.proofs.Numerals.{held_put, held_bytes, numeral-length}
use Rattle.whole.proofs.Reading.{drop_next}
use Rattle.console.specs.Lines.{field, fields, line}

-- ---- bytes

-- the next byte goes first
pub byte_first : (t : Text) (s : List ℕ) (i : ℕ) → i < length s
    → with_bytes (with_byte t (get_or s i 0)) (drop (i + 1) s) ≡ with_bytes t (drop i s)
unfolding with_bytes
byte_first t s i h = rw (drop_next s i h)

-- ---- lines

field-length : (n : ℕ) → length (field n) ≤ 21
field-length n = suc-le-suc (numeral-length 10 20 n)

-- a text with fields after it, one by one
abbrev pub with_fields : Text → List ℕ → Text
with_fields t [] = t
with_fields t (n ∷ ns) = with_fields (with_bytes t (field n)) ns

-- the next field goes first
pub field_first : (t : Text) (s : List ℕ) (i : ℕ) → i < length s
    → with_fields (with_bytes t (field (get_or s i 0))) (drop (i + 1) s) ≡ with_fields t (drop i s)
field_first t s i h = rw (drop_next s i h)

-- a word with a field after it begins the same line
line_more : (word : List ℕ) (n : ℕ) (numbers : List ℕ) → line (word ++ field n) numbers ≡ line word (n ∷ numbers)
line_more word n numbers =
    append_assoc word (field n) (fields numbers ++ (10 ∷ []))
    ∙ ap (λ s. word ++ s) (sym (append_assoc (field n) (fields numbers) (10 ∷ [])))

-- as far as there is surely room, a word, fields and an end are a line
pub line-held : (word numbers : List ℕ) → length word + 21 * length numbers < 255
    → with_byte (with_fields (held word) numbers) 10 ≡ held (line word numbers)
line-held word [] h = held_put word 10 (omega arith)
line-held word (n ∷ ns) h =
    ap (λ t. with_byte (with_fields t ns) 10) (held_bytes word (field n) (omega (arith, field-length n)))
    ∙ line-held (word ++ field n) ns (omega (arith, length-append word (field n), field-length n))
    ∙ ap held (line_more word n ns)

-- the same of a word that was put into an empty text
pub line_put : (word numbers : List ℕ) → length word + 21 * length numbers < 255
    → with_byte (with_fields (with_bytes (held []) word) numbers) 10 ≡ held (line word numbers)
line_put word numbers h =
    ap (λ t. with_byte (with_fields t numbers) 10) (held_bytes [] word (omega arith)) ∙ line-held word numbers h
