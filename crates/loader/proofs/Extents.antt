-- The lines from a place on, joined with how the code walks them: a line goes to the end that `extent_at` finds, and the next begins there.
use mathlib.Core.Path.{◌≡◌, refl, sym, ◌∙◌}
use mathlib.Core.Logic.{⊎_elim}
use mathlib.Core.Bool.{Bool, true, false, cond}
use mathlib.Core.List.{List, [], ◌∷◌, cons-ne-nil}
use Prim.Native.Nat.{ℕ, zero, suc, ◌+◌, ◌-◌, ◌≤◌, ◌<◌}
use native.Mathlib.Omega.{arith}
use lib.Dec.{eqb}
use lib.ListN.{length, take, drop, length-drop, drop_of_length-le}
use lib.Seq.{drop-drop, length-take-le}
use Rattle.whole.proofs.Numbers.{less}
use Rattle.whole.proofs.Reading.{drop_next}
use Rattle.words.specs.Places.{place}
use Rattle.words.proofs.Choices.{by_test, both}
use Rattle.loader.specs.Lines.{Line, lines_from, dropped, ending_of, extent_at}
use Rattle.loader.specs.declared.lines.Extent.{Extent}

-- ---- byte by byte

-- a line's end has at most two bytes
pub ending_small : (s : List ℕ) → ending_of s ≤ 2
unfolding ending_of
ending_small [] = omega arith
ending_small (b ∷ t) = go (eqb b 10) (dropped b t)
  where
    go : (x y : Bool) → cond x 1 (cond y 2 0) ≤ 2
    go true y = omega arith
    go false true = omega arith
    go false false = omega arith

module _ (text : List ℕ) (p : ℕ) where
  -- where no end stands, the line goes on
  pub walk_on : p < length text → ending_of (drop p text) ≡ 0 → extent_at p (drop p text) ≡ extent_at (p + 1) (drop (p + 1) text)
  unfolding extent_at
  walk_on h e = rw (drop_next text p h) (rw (rw (drop_next text p h) at e))

  -- where one stands, it ends
  pub walk_end : p < length text → (n : ℕ) → n ≡ ending_of (drop p text) → (n ≡ 0 → ⊥)
      → extent_at p (drop p text) ≡ record { end = place p; next = place (p + n) }
  unfolding extent_at
  walk_end h zero e z = absurd (z refl)
  walk_end h (suc n) e z = rw (drop_next text p h) (rw (rw (drop_next text p h) at (sym e)))

  -- and it ends with the text
  pub walk_out : length text ≤ p → extent_at p (drop p text) ≡ record { end = place p; next = place p }
  unfolding extent_at
  walk_out h = rw (drop_of_length-le text h)

-- ---- line by line

-- what a text holds from the place p on begins with a line of so many bytes, and so many with its end
record Split (p : ℕ) (s : List ℕ) (e : Extent) : Type 0 where
  size : ℕ
  whole : ℕ
  end : e.end.0 ≡ p + size
  next : e.next.0 ≡ p + whole
  within : size ≤ whole
  some : 0 < whole
  inside : whole ≤ length s
  lines : lines_from p s ≡ record { start = p; bytes = take size s; next = e.next.0 } ∷ lines_from e.next.0 (drop whole s)

-- a line that ends at once, by byte 10
split_ten : (p b : ℕ) (t : List ℕ) → eqb b 10 ≡ true → Split p (b ∷ t) (extent_at p (b ∷ t))
unfolding lines_from ending_of extent_at
split_ten p b t e =
    rw e
    (record {
      size = 0;
      whole = 1;
      end = omega arith;
      next = refl;
      within = omega arith;
      some = omega arith;
      inside = omega arith;
      lines = rw e;
    })

-- and by bytes 13 and 10
split_two : (p b c : ℕ) (t : List ℕ) → eqb b 10 ≡ false → dropped b (c ∷ t) ≡ true → Split p (b ∷ c ∷ t) (extent_at p (b ∷ c ∷ t))
unfolding lines_from ending_of extent_at
split_two p b c t e d =
    let k : p + 1 + 1 ≡ p + 2 = omega arith in
    let f = (both (eqb b 13) (eqb c 10) d).1 in
    rw (e, d)
    (record {
      size = 0;
      whole = 2;
      end = omega arith;
      next = refl;
      within = omega arith;
      some = omega arith;
      inside = omega arith;
      lines = rw (e, d, f, k);
    })

-- a last line of one byte
split_one : (p b : ℕ) → eqb b 10 ≡ false → Split p (b ∷ []) (extent_at p (b ∷ []))
unfolding lines_from ending_of extent_at
split_one p b e =
    rw e
    (record {
      size = 1;
      whole = 1;
      end = refl;
      next = refl;
      within = omega arith;
      some = omega arith;
      inside = omega arith;
      lines = rw e;
    })

-- every line: any other begins with its first byte
split : (p b : ℕ) (t : List ℕ) → Split p (b ∷ t) (extent_at p (b ∷ t))
unfolding lines_from ending_of extent_at
split p b [] = by_test (eqb b 10) (split_ten p b []) (split_one p b)
split p b (c ∷ t) =
    by_test (eqb b 10) (split_ten p b (c ∷ t))
    (λ e. by_test (dropped b (c ∷ t)) (split_two p b c t e)
    (λ d. let r = split (p + 1) c t in
    rw (e, d)
    (record {
      size = suc r.size;
      whole = suc r.whole;
      end = omega arith;
      next = omega arith;
      within = omega arith;
      some = omega arith;
      inside = omega arith;
      lines = rw (e, d, r.lines);
    })))

-- the lines from a place of a text on
abbrev pub lines_at : List ℕ → ℕ → List Line
lines_at text p = lines_from p (drop p text)

-- the line at a place, of an extent
abbrev pub passed : List ℕ → ℕ → Extent → Line
passed text p e = record { start = p; bytes = take (e.end.0 - p) (drop p text); next = e.next.0 }

-- past the end there are none
pub lines_out : (text : List ℕ) (p : ℕ) → length text ≤ p → lines_at text p ≡ []
unfolding lines_from
lines_out text p h = rw (drop_of_length-le text h)

-- the line at a place goes as far as its extent, and the rest are the lines from there on
pub record Walked (text : List ℕ) (p : ℕ) (e : Extent) : Type 0 where
  pub low : p ≤ e.end.0
  pub mid : e.end.0 ≤ e.next.0
  pub onward : p < e.next.0
  pub inside : e.next.0 ≤ length text
  pub lines : lines_at text p ≡ passed text p e ∷ lines_at text e.next.0

pub walked : (text : List ℕ) (p : ℕ) {e : Extent} → p < length text → e ≡ extent_at p (drop p text) → Walked text p e
walked text p {e} h q =
    let r : Split p (drop p text) e = rw (q, drop_next text p h) (split p _ _) in
    let k : e.end.0 - p ≡ r.size = omega arith in
    let l = length-drop p text in
    record {
      low = omega arith;
      mid = omega arith;
      onward = omega arith;
      inside = omega arith;
      lines = r.lines ∙ rw (k, drop-drop r.whole p text, r.next);
    }

-- so its bytes end where the extent says
pub walked_size : (text : List ℕ) (p : ℕ) {e : Extent} → Walked text p e → p + length (passed text p e).bytes ≡ e.end.0
walked_size text p {e} w =
    let k = length-take-le (e.end.0 - p) (drop p text) (omega (arith, length-drop p text)) in omega arith

-- what a first line of those from a place on tells
pub record Cut (text : List ℕ) (p : ℕ) (l : Line) (ls : List Line) : Type 0 where
  pub start : l.start ≡ p
  pub bytes : l.bytes ≡ take (length l.bytes) (drop p text)
  pub within : l.start + length l.bytes ≤ l.next
  pub onward : p < l.next
  pub inside : l.next ≤ length text
  pub rest : ls ≡ lines_at text l.next

cut_walked : (text : List ℕ) (p : ℕ) {e : Extent} {l : Line} {ls : List Line} → Walked text p e → lines_at text p ≡ l ∷ ls
    → Cut text p l ls
cut_walked text p {e} {l} {ls} w q =
    let s = walked_size text p w in
    let f : passed text p e ≡ l = cc w.lines in
    let g : lines_at text e.next.0 ≡ ls = cc w.lines in
    let k : length (passed text p e).bytes ≡ e.end.0 - p = omega arith in
    rw (← f, ← g)
    (record { start = refl; bytes = rw k; within = omega (arith, w.mid); onward = w.onward; inside = w.inside; rest = refl })

pub cut : (text : List ℕ) (p : ℕ) {l : Line} {ls : List Line} → lines_at text p ≡ l ∷ ls → Cut text p l ls
cut text p q =
    ⊎_elim (λ h. cut_walked text p (walked text p h refl) q)
    (λ h. absurd (cons-ne-nil _ _ (sym q ∙ lines_out text p h)))
    (less p (length text))
