-- The lines of a file, group by group: the first ones, the next one, and all of them.
use Rattle.std.specs.Prelude.{Ok}
use Rattle.loader.specs.Refusals.{refused_at}
use mathlib.Core.Path.{◌≡◌, refl, sym, ap, ◌∙◌, subst}
use mathlib.Core.Bool.{Bool, true, false, not, cond}
use mathlib.Core.List.{List, [], ◌∷◌, ◌++◌, append_assoc, append-nil}
use Prim.Native.Nat.{ℕ, zero, suc, ◌+◌, ◌-◌, ◌*◌, ◌/◌, ◌%◌, ◌≤◌, ◌<◌}
use native.Mathlib.Numerals.{add-one}
use native.Mathlib.Omega.{arith}
use lib.Dec.{T, leb, eqb, eqb→eq, not_T}
use lib.Ieee.{Float, is_nan, fits, binary32}
use lib.Ieee.Bits.{is_true, is_false}
use lib.Ieee.Fits.{eq→eqb}
use lib.ListN.{length, take, drop, get_or, length-append, length-drop}
use lib.Seq.{take_at, drop-cons, drop-append-add, drop-drop}
use Rattle.std.specs.Simd.{first_chunks}
use Rattle.loader.proofs.Chunks.{chunk_at}
use Rattle.words.specs.Places.{place}
use Rattle.loader.specs.declared.refusals.Refusal.TheVariants.{ShortGroup, NoRoom}
use Rattle.space.specs.Moves.{overlaid, copied}
use Rattle.space.proofs.Frames.{copied_lies, copied-length}
use Rattle.readings.specs.Values.{mantissa_of, is_minus, value_of, reading_of}
use Rattle.readings.specs.Lines.{lines_of}
use Rattle.readings.specs.Importing.{imported_of, out_after}
use Rattle.readings.specs.bridge.Groups.{is_number, line_for, line_at, lines_to, lines_of_groups}
use Rattle.readings.specs.declared.values.Reading.TheVariants.{Single, Double}
use Rattle.readings.proofs.Singles.{no_nan}

-- ---- a reading is a number

value_number : (l m h e : ℕ) → T (not (is_nan (value_of l m h e)))
unfolding value_of
value_number l m h zero = unfold is_nan in tt
value_number l m h (suc e) = no_nan 24 (is_minus h) (mantissa_of l m h) (suc e) 152

either_number : (b : Bool) (v : Float) → T (not (is_nan v)) → T (is_number (cond b (Single v) (Double v)))
either_number true v h = h
either_number false v h = h

pub reading_number : (l m h e : ℕ) → T (is_number (reading_of l m h e))
unfolding reading_of
reading_number l m h e = either_number (fits binary32 (value_of l m h e)) (value_of l m h e) (value_number l m h e)

-- ---- the lines of the first groups

-- a group that the file is cut into is the one with its index
pub group_line : (file : List ℕ) {groups : List (List ℕ)} {n : ℕ} (k : ℕ) → groups ≡ first_chunks 4 n file → k < n
    → line_for (get_or groups k []) ≡ line_at file k
unfolding line_for line_at
group_line file {n = n} k is h =
    let z : 4 * k + 0 ≡ 4 * k = omega arith in
    rw (is, chunk_at 4 n k 0 file h (omega arith), chunk_at 4 n k 1 file h (omega arith), chunk_at 4 n k 2 file h (omega arith), chunk_at 4 n k 3 file h (omega arith), z)

module _ (file : List ℕ) where
  pub lines_none : lines_to file 0 ≡ []
  unfolding lines_to
  lines_none = refl

  pub lines_next : (k : ℕ) → lines_to file (k + 1) ≡ lines_to file k ++ line_at file k
  unfolding lines_to
  lines_next k = ap (lines_to file) (add-one k)

  pub length_next : (k : ℕ) → length (lines_to file (k + 1)) ≡ length (lines_to file k) + length (line_at file k)
  length_next k = ap length (lines_next k) ∙ length-append (lines_to file k) (line_at file k)

-- more groups have no fewer bytes
lines_grow : (file : List ℕ) (j d : ℕ) → length (lines_to file j) ≤ length (lines_to file (j + d))
lines_grow file j zero =
    let z : j ≡ j + 0 = omega arith in subst (λ (x : ℕ). length (lines_to file j) ≤ length (lines_to file x)) z (omega arith)
lines_grow file j (suc d) =
    let z : j + d + 1 ≡ j + suc d = omega arith in
    let h : length (lines_to file j) ≤ length (lines_to file (j + d)) = lines_grow file j d in
    subst (λ (x : ℕ). length (lines_to file j) ≤ length (lines_to file x)) z (omega (arith, length_next file (j + d)))

-- where all lines have room, the next one has
pub room_for_next : (file : List ℕ) (k n : ℕ) → k < n → length (lines_to file k) + length (line_at file k) ≤ length (lines_to file n)
room_for_next file k n h =
    let z : k + 1 + (n - (k + 1)) ≡ n = omega arith in
    let g : length (lines_to file (k + 1)) ≤ length (lines_to file n)
    = subst (λ (x : ℕ). length (lines_to file (k + 1)) ≤ length (lines_to file x)) z (lines_grow file (k + 1) (n - (k + 1))) in
    omega (arith, length_next file k)

-- a line copied in after the lines before it
pub line_after : (front out₀ out line : List ℕ) (at : ℕ) → at ≡ length front → out ≡ front ++ drop at out₀
    → at + length line ≤ length out
    → copied out at line ≡ (front ++ line) ++ drop (at + length line) out₀
unfolding overlaid
line_after front out₀ out line at e p h =
    let n = length line in
    let behind : drop (at + n) (front ++ drop at out₀) ≡ drop (at + n) out₀
    = ap (λ (x : ℕ). drop (x + n) (front ++ drop at out₀)) e ∙ drop-append-add front (drop at out₀) n ∙ drop-drop n at out₀ in
    copied_lies out at line h
    ∙ ap (λ (x : List ℕ). take at x ++ (line ++ drop (at + n) x)) p
    ∙ ap (λ (x : List ℕ). x ++ (line ++ drop (at + n) (front ++ drop at out₀))) (take_at front (drop at out₀) at (sym e))
    ∙ ap (λ (x : List ℕ). front ++ (line ++ x)) behind
    ∙ sym (append_assoc front line (drop (at + n) out₀))

-- a turn of the loop that writes: the next line is copied in, and the room holds the lines with it
module _ (file out₀ out bytes after : List ℕ) (k at len : ℕ) where
  pub line_written : at ≡ length (lines_to file k) → out ≡ lines_to file k ++ drop at out₀ → length out ≡ length out₀
      → take len bytes ≡ line_at file k → len ≡ length (line_at file k) → at + len ≤ length out₀
      → after ≡ copied out at (take len bytes)
      → (at + len ≡ length (lines_to file (k + 1))) × (after ≡ lines_to file (k + 1) ++ drop (at + len) out₀) × (length after ≡ length out₀)
  line_written a o l b n h e = (
    omega (arith, length_next file k),
    e
        ∙ ap (copied out at) b
        ∙ line_after (lines_to file k) out₀ out (line_at file k) at a o (omega arith)
        ∙ ap (λ (x : List ℕ). x ++ drop (at + length (line_at file k)) out₀) (sym (lines_next file k))
        ∙ ap (λ (x : ℕ). lines_to file (k + 1) ++ drop (at + x) out₀) (sym n),
    ap length e ∙ copied-length out at (take len bytes) ∙ l,
  )

-- ---- all of them

-- four bytes, and those behind them
four_front : (s : List ℕ) (i : ℕ) → i + 4 ≤ length s
    → drop i s ≡ get_or s i 0 ∷ get_or s (i + 1) 0 ∷ get_or s (i + 2) 0 ∷ get_or s (i + 3) 0 ∷ drop (i + 4) s
four_front s i h =
    next i (omega arith)
    ∙ ap (λ l. get_or s i 0 ∷ l) (next (i + 1) (omega arith) ∙ ap (λ n. get_or s (i + 1) 0 ∷ drop n s) two)
    ∙ ap (λ l. get_or s i 0 ∷ get_or s (i + 1) 0 ∷ l) (next (i + 2) (omega arith) ∙ ap (λ n. get_or s (i + 2) 0 ∷ drop n s) three)
    ∙ ap (λ l. get_or s i 0 ∷ get_or s (i + 1) 0 ∷ get_or s (i + 2) 0 ∷ l)
    (next (i + 3) (omega arith) ∙ ap (λ n. get_or s (i + 3) 0 ∷ drop n s) all)
  where
    next : (j : ℕ) → j < length s → drop j s ≡ get_or s j 0 ∷ drop (j + 1) s
    next j b = rw (add-one, drop-cons s j 0)

    two : i + 1 + 1 ≡ i + 2
    two = omega arith

    three : i + 2 + 1 ≡ i + 3
    three = omega arith

    all : i + 3 + 1 ≡ i + 4
    all = omega arith

-- fewer than four bytes are no reading
few : (s : List ℕ) → length s < 4 → lines_of s ≡ []
unfolding lines_of
few [] h = refl
few (a ∷ []) h = refl
few (a ∷ b ∷ []) h = refl
few (a ∷ b ∷ c ∷ []) h = refl
few (a ∷ b ∷ c ∷ d ∷ s) h = absurd (omega arith)

-- the lines of the bytes from a group on: its line, and those of the bytes behind it
from_group : (file : List ℕ) (k : ℕ) → 4 * k + 4 ≤ length file
    → lines_of (drop (4 * k) file) ≡ line_at file k ++ lines_of (drop (4 * k + 4) file)
unfolding lines_of line_at
from_group file k h = ap lines_of (four_front file (4 * k) h)

-- the lines of the first groups, and those of the bytes behind them
in_two : (file : List ℕ) (k : ℕ) → 4 * k ≤ length file → lines_to file k ++ lines_of (drop (4 * k) file) ≡ lines_of file
unfolding lines_to
in_two file zero h = refl
in_two file (suc k) h =
    let z : 4 * suc k ≡ 4 * k + 4 = omega arith in
    ap (λ n. (lines_to file k ++ line_at file k) ++ lines_of (drop n file)) z
    ∙ append_assoc (lines_to file k) (line_at file k) (lines_of (drop (4 * k + 4) file))
    ∙ ap (λ l. lines_to file k ++ l) (sym (from_group file k (omega arith)))
    ∙ in_two file k (omega arith)

-- the lines of all groups are the lines of the file
pub lines_of_groups_lem : (file : List ℕ) → lines_of_groups file ≡ lines_of file
lines_of_groups_lem file =
    let n = length file / 4 in
    let l : length (drop (4 * n) file) ≡ length file - 4 * n = length-drop (4 * n) file in
    sym (append-nil (lines_to file n))
    ∙ ap (λ l. lines_to file n ++ l) (sym (few (drop (4 * n) file) (omega arith)))
    ∙ in_two file n (omega arith)

-- ---- the answers

module _ (file out : List ℕ) where
  pub short : (length file % 4 ≡ 0 → ⊥)
      → (refused_at ShortGroup (place (length file - length file % 4)) ≡ imported_of file (length out)) × (out ≡ out_after file out)
  unfolding imported_of out_after
  short h =
      let b : eqb (length file % 4) 0 ≡ false = is_false (eqb (length file % 4) 0)
      (not_T (eqb (length file % 4) 0) (λ t. h (eqb→eq (length file % 4) 0 t))) in
      rw b (refl, refl)

  pub done : length file % 4 ≡ 0 → leb (length (lines_of file)) (length out) ≡ true
      → (Ok (length (lines_of file)) ≡ imported_of file (length out)) × (lines_of file ++ drop (length (lines_of file)) out ≡ out_after file out)
  unfolding imported_of out_after
  done h k = let b : eqb (length file % 4) 0 ≡ true = is_true _ (eq→eqb h) in rw (b, k) (refl, refl)

  pub no_room : length file % 4 ≡ 0 → leb (length (lines_of file)) (length out) ≡ false
      → (refused_at NoRoom (place 0) ≡ imported_of file (length out)) × (out ≡ out_after file out)
  unfolding imported_of out_after
  no_room h k = let b : eqb (length file % 4) 0 ≡ true = is_true _ (eq→eqb h) in rw (b, k) (refl, refl)

-- so many bytes as are said to be written are all lines
count_of : (whole held : Bool) (at₁ at₂ lines count : ℕ)
    → Ok count ≡ cond whole (cond held (Ok lines) (refused_at NoRoom (place at₁))) (refused_at ShortGroup (place at₂)) → count ≡ lines
count_of true true at₁ at₂ lines count e = cc
count_of true false at₁ at₂ lines count e = let none : suc count ≡ count = cc in omega arith
count_of false held at₁ at₂ lines count e = let none : suc count ≡ count = cc in omega arith

pub done_whole : (file : List ℕ) (room count : ℕ) → Ok count ≡ imported_of file room → count ≡ length (lines_of file)
unfolding imported_of
done_whole file room count e =
    count_of (eqb (length file % 4) 0) (leb (length (lines_of file)) room) 0 (length file - length file % 4) (length (lines_of file)) count e
