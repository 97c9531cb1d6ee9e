-- The span of a line: of lines that are sound, what it tells of the line, of the bytes after its number and of the lines after it.
use Rattle.std.specs.Prelude.{None, Some}
use mathlib.Core.Path.{◌≡◌, refl, sym, ap, ◌∙◌}
use mathlib.Core.List.{List, [], ◌∷◌}
use Prim.Native.Nat.{ℕ, ◌+◌, ◌-◌, ◌≤◌, ◌<◌}
use native.Mathlib.Omega.{arith}
use lib.ListN.{length, take, drop, length-drop}
use lib.Seq.{take-add, drop_at, drop-drop, length-take-le}
use Rattle.whole.specs.Digits.{leading_digits, leading_value}
use Rattle.whole.proofs.Never.{never}
use Rattle.words.specs.Places.{place, line_number}
use Rattle.loader.specs.Lines.{Line, after_number, first_of}
use Rattle.loader.specs.declared.lines.LineSpan.{LineSpan}
use Rattle.loader.proofs.Extents.{lines_at, cut}
use Rattle.loader.proofs.Found.{digits_inside}
use Rattle.loader.proofs.Rising.{Sound, Rising, rising_lower}

-- what stands after the number of a line, in the text
part_inside : (text : List ℕ) (p n m : ℕ) → n ≤ m → p + m ≤ length text → drop n (take m (drop p text)) ≡ take (m - n) (drop (p + n) text)
part_inside text p n m h k =
    let e : m ≡ n + (m - n) = omega arith in
    let i = length-take-le n (drop p text) (omega (arith, length-drop p text)) in
    ap (λ x. drop n (take x (drop p text))) e
    ∙ ap (drop n) (take-add n (m - n) (drop p text))
    ∙ drop_at (take n (drop p text)) (take (m - n) (drop n (drop p text))) n i
    ∙ ap (take (m - n)) (drop-drop n p text)

-- the bytes that a span says to judge
abbrev pub body_at : List ℕ → LineSpan → List ℕ
body_at text span = take (span.end.0 - span.body.0) (drop span.body.0 text)

-- a span is that of the line at a place
pub record Spanned (text : List ℕ) (p : ℕ) (span : LineSpan) : Type 0 where
  pub line : Line
  pub lines : lines_at text p ≡ line ∷ lines_at text span.next.0
  pub sound : Sound line.bytes
  pub starts : span.place ≡ place p
  pub next : span.next ≡ place line.next
  pub number : span.number ≡ line_number (leading_value line.bytes)
  pub bytes : body_at text span ≡ after_number line
  pub low : span.body.0 ≤ span.end.0
  pub high : span.end.0 ≤ length text
  pub onward : p < span.next.0
  pub inside : span.next.0 ≤ length text
  pub rising : Rising 0 (lines_at text span.next.0)

-- where all lines are sound, none is found only past the last
pub none_left : (ls : List Line) → Rising 0 ls → first_of ls ≡ None → ls ≡ []
none_left [] r e = refl
none_left (l ∷ ls) r e = let f = rw r.0.is at e in never (cc)

-- and one that is found is at its place
spanned_by : (text : List ℕ) (p : ℕ) (ls : List Line) {span : LineSpan} → lines_at text p ≡ ls → Rising 0 ls → first_of ls ≡ Some span → Spanned text p span
spanned_by text p [] q r e = never (cc)
spanned_by text p (l ∷ ls) {span} q r e =
    let k = cut text p q in
    let n = length (leading_digits l.bytes) in
    let m = length l.bytes in
    let h : n ≤ m = digits_inside l.bytes r.0.is in
    let f = rw r.0.is at e in
    let first : span.place ≡ place l.start = cc in
    let body : span.body ≡ place (l.start + n) = cc in
    let end : span.end ≡ place (l.start + m) = cc in
    let next : span.next ≡ place l.next = cc in
    let from : span.body.0 ≡ p + n = ap (λ x. x.0) body ∙ ap (λ x. x + n) k.start in
    let to : span.end.0 ≡ p + m = ap (λ x. x.0) end ∙ ap (λ x. x + m) k.start in
    let on : span.next.0 ≡ l.next = ap (λ x. x.0) next in
    let size : span.end.0 - span.body.0 ≡ m - n = omega arith in
    record {
      line = l;
      lines = q ∙ ap (λ x. l ∷ x) k.rest ∙ rw on;
      sound = r.0;
      starts = first ∙ ap place k.start;
      next = next;
      number = cc;
      bytes = rw (size, from) (sym (part_inside text p n m h (omega arith)) ∙ ap (drop n) (sym k.bytes));
      low = omega arith;
      high = omega arith;
      onward = omega arith;
      inside = omega arith;
      rising = rw (on, ← k.rest) (rising_lower 0 (leading_value l.bytes + 1) ls (omega arith) r.2);
    }

pub spanned_as : (text : List ℕ) (p : ℕ) {span : LineSpan} → Rising 0 (lines_at text p) → first_of (lines_at text p) ≡ Some span → Spanned text p span
spanned_as text p r e = spanned_by text p (lines_at text p) refl r e
