-- What loading tells: of a line that is judged good, and of a text that loads, each line is sound and the numbers rise.
use Rattle.std.specs.Prelude.{Err, None, Ok, Option, Result, Some, ℕ}
use Rattle.loader.specs.declared.refusals.RefusedAt.{RefusedAt}
use Rattle.loader.specs.Refusals.{refused_at}
use mathlib.Core.Path.{◌≡◌, refl, sym, ap, ap₂, ◌∙◌}
use mathlib.Core.Bool.{true}
use mathlib.Core.List.{List, [], ◌∷◌, ◌++◌, IsSuffix}
use Prim.Native.Nat.{ℕ, ◌+◌, ◌≤◌, ◌<◌}
use native.Mathlib.Omega.{arith}
use borrow.Author.Tests.{ltb-true, ltb-false, leb-true, leb-false}
use lib.Dec.{leb, ltb}
use lib.ListN.{length, get_or}
use Rattle.whole.specs.Bytes.{leading}
use Rattle.whole.specs.Digits.{leading_digits, leading_value}
use Rattle.whole.proofs.Never.{never}
use Rattle.words.specs.Places.{place, line_number, largest_line_number, longest_line}
use Rattle.words.specs.declared.places.Place.{Place}
use Rattle.words.specs.declared.places.LineNumber.{LineNumber}
use Rattle.words.proofs.Choices.{by_test, both}
use Rattle.words.proofs.Runs.{run_passes}
use Rattle.loader.specs.Lines.{Line, lines_of, number_of}
use Rattle.loader.specs.Loading.{is_plain, numbered, with_number, judged, by_judged, load_lines, load_of, longest_text, most_lines}
use Rattle.loader.specs.declared.refusals.Refusal.{Refusal}
use Rattle.loader.proofs.Found.{numbered_as}

-- ---- a line

-- a line with a number, not too long, of bytes from blank to tilde
pub record Sound (s : List ℕ) : Type 0 where
  pub is : number_of s ≡ Some (line_number (leading_value s), length (leading_digits s))
  pub small : leading_value s ≤ largest_line_number
  pub short : length s ≤ longest_line
  pub plain : (i : ℕ) → i < length s → (32 ≤ get_or s i 0) × (get_or s i 0 ≤ 126)

-- a line that is judged good
pub record Accepted (s : List ℕ) (before floor : ℕ) (n : LineNumber) : Type 0 where
  pub sound : Sound s
  pub value : n.0 ≡ leading_value s
  pub rises : floor ≤ leading_value s
  pub few : before < most_lines

-- no line is judged both good and bad
not_both : {P : Type 0} {r : Refusal} {k : Place} {n : LineNumber} → refused_at r k ≡ Ok n → P
not_both e = never (cc)

-- how far into a line its fault is
abbrev offset_of : Result LineNumber RefusedAt → ℕ
offset_of (Ok n) = 0
offset_of (Err e) = e.place.0

-- the byte range that the test says
plain_byte : (b : ℕ) → is_plain b ≡ true → (32 ≤ b) × (b ≤ 126)
unfolding is_plain
plain_byte b e = let t = both (leb 32 b) (leb b 126) e in (leb-true 32 b t.0, leb-true b 126 t.1)

-- what was found is a number, above the one before and of a line that there may be
record Above (before floor : ℕ) (found : Option (LineNumber × ℕ)) (n : LineNumber) : Type 0 where
  count : ℕ
  is : found ≡ Some (n, count)
  rises : floor ≤ n.0
  few : before < most_lines

module _ (before floor : ℕ) where
  -- as it is where it is judged good
  above : (found : Option (LineNumber × ℕ)) {n : LineNumber} → with_number found before floor ≡ Ok n → Above before floor found n
  unfolding numbered
  above None e = not_both e
  above (Some (m, count)) {n} e =
      by_test (ltb m.0 floor) (λ t. not_both (rw t at e))
      (λ t. by_test (leb most_lines before) (λ u. not_both (rw (t, u) at e))
      (λ u. let g : Ok m ≡ Ok n = rw (t, u) at e in let k : m ≡ n = cc in
      record { count = count; is = rw k; rises = rw (← k) (ltb-false _ _ t); few = leb-false _ _ u }))

  -- a number's own fault is of the line's first byte
  at_first : (found : Option (LineNumber × ℕ)) {r : Refusal} {k : Place} → with_number found before floor ≡ refused_at r k → k.0 ≡ 0
  unfolding numbered
  at_first None e = sym (ap offset_of e)
  at_first (Some (m, count)) e =
      by_test (ltb m.0 floor) (λ t. sym (ap offset_of (rw t at e)))
      (λ t. by_test (leb most_lines before) (λ u. sym (ap offset_of (rw (t, u) at e))) (λ u. not_both (sym (rw (t, u) at e))))

  module _ (s : List ℕ) where
    -- what is judged good is sound, and its number is the value of its digits
    pub judged_good : {n : LineNumber} → judged s before floor ≡ Ok n → Accepted s before floor n
    unfolding judged
    judged_good e =
        by_test (ltb longest_line (length s)) (λ t. not_both (rw t at e))
        (λ t. by_test (ltb (length (leading is_plain s)) (length s)) (λ u. not_both (rw (t, u) at e))
        (λ u. let a = above (number_of s) (rw (t, u) at e) in
        let n = numbered_as s a.is in
        let h = ltb-false (length (leading is_plain s)) (length s) u in
        record {
          sound = record {
            is = a.is ∙ ap₂ (λ n k. Some (n, k)) n.is n.digits;
            small = n.small;
            short = ltb-false longest_line (length s) t;
            plain = λ i k. plain_byte _ (run_passes is_plain s i (omega arith));
          };
          value = ap (λ l. l.0) n.is;
          rises = omega (arith, a.rises, ap (λ l. l.0) n.is);
          few = a.few;
        }))

    -- what is judged bad is so at a place of the line, or at its end
    pub judged_bad : {r : Refusal} {k : Place} → judged s before floor ≡ refused_at r k → k.0 ≤ length s
    unfolding judged
    judged_bad e =
        by_test (ltb longest_line (length s)) (λ t. omega (arith, ap offset_of (rw t at e)))
        (λ t. by_test (ltb (length (leading is_plain s)) (length s))
        (λ u. omega (arith, ap offset_of (rw (t, u) at e), ltb-true (length (leading is_plain s)) (length s) u))
        (λ u. omega (arith, at_first (number_of s) (rw (t, u) at e))))

  module _ {ls : List Line} {l : Line} {rest : List Line} (q : ls ≡ l ∷ rest) where
    -- after a good line the others decide,
    pub load_good : {n : LineNumber} → judged l.bytes before floor ≡ Ok n
        → load_lines before floor ls ≡ load_lines (before + 1) (n.0 + 1) rest
    unfolding load_lines
    load_good e = rw (q, e)

    -- and a bad one does itself
    pub load_bad : {r : Refusal} {k : Place} → judged l.bytes before floor ≡ refused_at r k
        → load_lines before floor ls ≡ refused_at r (place (l.start + k.0))
    unfolding load_lines
    load_bad e = rw (q, e)

-- ---- a text

-- sound lines whose numbers rise, the first not below `floor`
abbrev pub Rising : ℕ → List Line → Type 0
Rising floor [] = Unit {0}
Rising floor (l ∷ ls) = Sound l.bytes × (floor ≤ leading_value l.bytes) × Rising (leading_value l.bytes + 1) ls

-- a text of at most 16,384 bytes and 512 lines, each sound, their numbers rising
pub record Recipe (text : List ℕ) : Type 0 where
  pub short : length text ≤ longest_text
  pub few : length (lines_of text) ≤ most_lines
  pub rising : Rising 0 (lines_of text)

-- what is refused is not fine
not_fine : {P : Type 0} {r : Refusal} {p : Place} → refused_at {T = Unit {0}} r p ≡ Ok tt → P
not_fine e = never (cc)

-- where all is fine, so are the first line and what follows it
fine_first : (s : List ℕ) (before floor start : ℕ) (next : ℕ → Result (Unit {0}) RefusedAt) → by_judged (judged s before floor) start next ≡ Ok tt
    → (n : LineNumber) × Accepted s before floor n × (next (n.0 + 1) ≡ Ok tt)
fine_first s before floor start next e = go (judged s before floor) refl e
  where
    go : (j : Result LineNumber RefusedAt) → judged s before floor ≡ j → by_judged j start next ≡ Ok tt
        → (n : LineNumber) × Accepted s before floor n × (next (n.0 + 1) ≡ Ok tt)
    go (Ok n) f g = (n, judged_good before floor s f, g)
    go (Err e) f g = not_fine g

-- so all of them rise
fine_lines : (ls : List Line) (before floor : ℕ) → before ≤ most_lines → load_lines before floor ls ≡ Ok tt
    → (before + length ls ≤ most_lines) × Rising floor ls
unfolding load_lines
fine_lines [] before floor h e = (omega arith, tt)
fine_lines (l ∷ ls) before floor h e =
    let g = fine_first l.bytes before floor l.start (λ above. load_lines (before + 1) above ls) e in
    let a = g.1 in
    let r = fine_lines ls (before + 1) (g.0.0 + 1) (omega (arith, a.few)) g.2 in
    (omega (arith, r.0), (a.sound, a.rises, rw (← a.value) r.1))

-- what a text that loads is
pub recipe : (text : List ℕ) → load_of text ≡ Ok tt → Recipe text
unfolding load_of
recipe text e =
    by_test (ltb longest_text (length text)) (λ t. not_fine (rw t at e))
    (λ t. let r = fine_lines (lines_of text) 0 0 (omega arith) (rw t at e) in
    record { short = ltb-false longest_text (length text) t; few = omega (arith, r.0); rising = r.1 })

-- the floor may be lower
pub rising_lower : (low floor : ℕ) (ls : List Line) → low ≤ floor → Rising floor ls → Rising low ls
rising_lower low floor [] h r = tt
rising_lower low floor (l ∷ ls) h r = (r.0, omega (arith, r.1), r.2)

-- past some of them they still rise
rising_after : (floor : ℕ) (before ls : List Line) → Rising floor (before ++ ls) → Rising floor ls
rising_after floor [] ls r = r
rising_after floor (m ∷ before) ls r =
    rising_after floor before ls (rising_lower floor (leading_value m.bytes + 1) (before ++ ls) (omega (arith, r.1)) r.2)

-- so the last of them do
pub rising_suffix : (floor : ℕ) {ls all : List Line} → IsSuffix ls all → Rising floor all → Rising floor ls
rising_suffix floor {ls} s r = rising_after floor s.0 ls (rw s.1 r)
