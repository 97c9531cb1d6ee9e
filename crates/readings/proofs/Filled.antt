-- The digits of a line, laid over a blank one from the last on, and a line so filled.
use mathlib.Core.Path.{◌≡◌, refl, sym, ap, ◌∙◌}
use mathlib.Core.List.{List, [], ◌∷◌, ◌++◌, map-append, append_assoc}
use Prim.Native.Nat.{ℕ, zero, suc, ◌+◌, ◌/◌, ◌%◌, ◌<◌}
use native.Mathlib.Numerals.{add-one}
use native.Mathlib.Omega.{arith}
use lib.Ieee.{Float, to_bits, binary32, binary64}
use lib.ListN.{length, take, drop, set, length-append}
use lib.Seq.{take_at}
use Rattle.whole.specs.Bytes.{bytes}
use Rattle.whole.specs.Texts.{places, digit_byte}
use Rattle.space.specs.Moves.{overlaid}
use Rattle.space.proofs.Overlaid.{overlaid_one, overlaid_before}
use Rattle.readings.specs.Lines.{hex_digits, line_of}
use Rattle.readings.specs.declared.values.Reading.TheVariants.{Single, Double}

-- ---- digits

-- the digits without the last, and the last
pub hex_last : (k b : ℕ) → hex_digits (suc k) b ≡ hex_digits k (b / 16) ++ (digit_byte (b % 16) ∷ [])
unfolding hex_digits places
hex_last k b = map-append digit_byte (places 16 k (b / 16)) (b % 16 ∷ [])

pub hex_none : (b : ℕ) → hex_digits 0 b ≡ []
unfolding hex_digits places
hex_none b = refl

pub hex_length : (k b : ℕ) → length (hex_digits k b) ≡ k
hex_length zero b = ap length (hex_none b)
hex_length (suc k) b =
    let l : length (hex_digits k (b / 16)) ≡ k = hex_length k (b / 16) in
    ap length (hex_last k b) ∙ length-append (hex_digits k (b / 16)) (digit_byte (b % 16) ∷ []) ∙ (omega arith)

-- the last digit is stored, and the others are laid: all are
pub hex_turn : (line : List ℕ) (to i b : ℕ) → to + i < length line
    → overlaid (set line (to + i) (digit_byte (b % 16))) to (hex_digits i (b / 16)) ≡ overlaid line to (hex_digits (i + 1) b)
hex_turn line to i b h =
    let d = digit_byte (b % 16) in
    let front = hex_digits i (b / 16) in
    let l : length front ≡ i = hex_length i (b / 16) in
    ap (λ n. overlaid (set line (to + n) d) to front) (sym l)
    ∙ ap (λ s. overlaid s to front) (sym (overlaid_one line (to + length front) d (omega arith)))
    ∙ overlaid_before line to front (d ∷ []) (omega arith)
    ∙ ap (overlaid line to) (sym (hex_last i b) ∙ ap (λ n. hex_digits n b) (sym (add-one i)))

-- ---- a line

-- a blank line with its digits: what stood before them, the digits, and what stood after
filled : (line h : List ℕ) (k : ℕ) → length h ≡ k → overlaid line 7 h ≡ take 7 line ++ (h ++ drop (7 + k) line)
unfolding overlaid
filled line h k e = ap (λ n. take 7 line ++ (h ++ drop (7 + n) line)) e

-- as far as its end
ended : (h z : List ℕ) (k : ℕ) → length h ≡ k → take (suc k) (h ++ (10 ∷ z)) ≡ h ++ (10 ∷ [])
ended h z k e =
    ap (take (suc k)) (sym (append_assoc h (10 ∷ []) z))
    ∙ take_at (h ++ (10 ∷ [])) z (suc k) (length-append h (10 ∷ []) ∙ (omega arith))

pub single_line : (value : Float) (line : List ℕ)
    → line ≡ overlaid (bytes "single\t........\n........") 7 (hex_digits 8 (to_bits binary32 value))
    → (take 16 line ≡ line_of (Single value)) × (16 ≡ length (line_of (Single value)))
unfolding line_of bytes
single_line value line e =
    let h = hex_digits 8 (to_bits binary32 value) in
    let n : length h ≡ 8 = hex_length 8 (to_bits binary32 value) in (
      ap (take 16) (e ∙ filled (bytes "single\t........\n........") h 8 n)
          ∙ ap (λ l. bytes "single\t" ++ l) (ended h (bytes "........") 8 n),
      simp length-append (omega arith),
    )

pub double_line : (value : Float) (line : List ℕ)
    → line ≡ overlaid (bytes "double\t................\n") 7 (hex_digits 16 (to_bits binary64 value))
    → (take 24 line ≡ line_of (Double value)) × (24 ≡ length (line_of (Double value)))
unfolding line_of bytes
double_line value line e =
    let h = hex_digits 16 (to_bits binary64 value) in
    let n : length h ≡ 16 = hex_length 16 (to_bits binary64 value) in (
      ap (take 24) (e ∙ filled (bytes "double\t................\n") h 16 n) ∙ ap (λ l. bytes "double\t" ++ l) (ended h [] 16 n),
      simp length-append (omega arith),
    )
