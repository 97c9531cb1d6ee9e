-- The merge by turns over two texts that load: a turn says what comes first, and leaves less.
use Rattle.std.specs.Prelude.{None, Ok, Option, Some}
use mathlib.Core.Path.{◌≡◌, refl, sym, ap, ap₂, ◌∙◌}
use mathlib.Core.Logic.{⊎_elim}
use mathlib.Core.Bool.{Bool, true, false, cond, ◌||◌, false≢true}
use mathlib.Core.List.{List, [], ◌∷◌, ◌++◌, append_assoc}
use Prim.Native.Nat.{ℕ, ◌+◌, ◌-◌, ◌≤◌, ◌<◌}
use native.Mathlib.Omega.{arith}
use lib.ListN.{length, length-append}
use Rattle.whole.specs.Digits.{leading_digits}
use Rattle.whole.proofs.Numbers.{less}
use Rattle.words.specs.Places.{place, line_number}
use Rattle.words.specs.Spellings.{same_bytes}
use Rattle.words.specs.declared.places.LineNumber.{LineNumber}
use Rattle.loader.specs.Lines.{Line, line_at, first_of, after_number}
use Rattle.loader.specs.Loading.{load_of}
use Rattle.loader.specs.declared.lines.LineSpan.{LineSpan}
use Rattle.loader.proofs.Extents.{lines_at}
use Rattle.loader.proofs.Rising.{Rising, recipe}
use Rattle.loader.proofs.Spans.{Spanned, spanned_as, none_left}
use Rattle.compare.specs.Differences.{number_in, differs, of_both, differences}
use Rattle.compare.specs.Records.{record_of, records_of, report_of}
use Rattle.compare.specs.bridge.Turns.{first_heads, is_line, some_left, Lies, says, gone_turn, new_turn, both_turn, pair_turn, turn_of, said_in, records_in}
use Rattle.compare.specs.declared.merging.Way.{Way}
use Rattle.compare.specs.declared.merging.Way.TheVariants.{Gone, New, Changed}
use Rattle.compare.specs.declared.merging.Difference.{Difference}
use Rattle.compare.specs.declared.merging.Heads.{Heads}
use Rattle.compare.specs.declared.merging.Turn.{Turn}
use Rattle.compare.proofs.Firsts.{old_first_lem, new_first_lem, at_once, old_alone, new_alone, old_passes, new_passes, both_pass}

-- ---- the next line of a text

-- the lines from it on, and how many bytes of the text they may have
abbrev pub lines_on : List ℕ → Option LineSpan → List Line
lines_on text (Some span) = lines_at text span.place.0
lines_on text None = []

abbrev pub left_in : List ℕ → Option LineSpan → ℕ
left_in text (Some span) = length text - span.place.0
left_in text None = 0

-- it was found at its place, and from there on the lines rise
pub record Next (text : List ℕ) (found : Option LineSpan) : Type 0 where
  pub is : found ≡ first_of (lines_on text found)
  pub rising : Rising 0 (lines_on text found)

-- the line that was looked for at a place
pub record Found (text : List ℕ) (p : ℕ) (found : Option LineSpan) : Type 0 where
  pub next : Next text found
  pub lines : lines_on text found ≡ lines_at text p
  pub left : left_in text found ≤ length text - p

module _ (text : List ℕ) where
  found_by : (p : ℕ) (found : Option LineSpan) → Rising 0 (lines_at text p) → first_of (lines_at text p) ≡ found → Found text p found
  found_by p None r e =
      record { next = record { is = refl; rising = tt }; lines = sym (none_left (lines_at text p) r e); left = omega arith }
  found_by p (Some span) r e =
      let k : span.place.0 ≡ p = ap (λ x. x.0) (spanned_as text p r e).starts in
      record { next = record { is = sym (ap (λ x. first_of (lines_at text x)) k ∙ e); rising = rw k r }; lines = ap (lines_at text) k; left = omega arith }

  pub found_at : (p : ℕ) → Rising 0 (lines_at text p) → Found text p (first_of (lines_at text p))
  found_at p r = found_by p (first_of (lines_at text p)) r refl

  -- at first, of a text that loads
  pub found_first : load_of text ≡ Ok tt → Found text 0 (line_at text (place 0))
  found_first e = found_at 0 (recipe text e).rising

  module _ (span : LineSpan) (n : Next text (Some span)) where
    pub spanned_next : Spanned text span.place.0 span
    spanned_next = spanned_as text span.place.0 n.rising (sym n.is)

    -- the line after it
    pub found_after : Found text span.next.0 (line_at text span.next)
    found_after = found_at span.next.0 spanned_next.rising

    -- its number comes first
    number_first : span.place.0 ≤ span.body.0
    number_first =
        let l = spanned_next.line in
        let count = length (leading_digits l.bytes) in
        let f : Some span ≡ first_of (l ∷ lines_at text span.next.0) = n.is ∙ ap first_of spanned_next.lines in
        let g = rw spanned_next.sound.is at f in
        let a : span.place ≡ place l.start = cc in
        let b : span.body ≡ place (l.start + count) = cc in
        omega (arith, ap (λ x. x.0) a, ap (λ x. x.0) b)

  pub lies : (found : Option LineSpan) → Next text found → Lies text found
  lies None n = tt
  lies (Some span) n = let s = spanned_next span n in (number_first span n, s.low, s.high)

-- ---- a turn

-- what is still to be said, and how many bytes may still be looked at
abbrev pub ahead : List ℕ → List ℕ → Option LineSpan → Option LineSpan → List Difference
ahead old new o n = differences (lines_on old o) (lines_on new n)

abbrev pub left_of : List ℕ → List ℕ → Option LineSpan → Option LineSpan → ℕ
left_of old new o n = left_in old o + left_in new n

-- a line passed alone, and two lines passed with one number, as a turn says it
alone_said : (way : Way) {number : LineNumber} (l : Line) {ds es : List Difference} → number ≡ line_number (number_in l) → es ≡ ds
    → differs way l ∷ ds ≡ said_in (says way number) ++ es
alone_said way l e f = rw (e, f)

cond_said : (same : Bool) (d : Difference) (ds : List Difference) → cond same [] (d ∷ []) ++ ds ≡ said_in (cond same None (Some d)) ++ ds
cond_said true d ds = refl
cond_said false d ds = refl

both_said : {number : LineNumber} (o n : Line) {a b : List ℕ} {ds es : List Difference} → number ≡ line_number (number_in o)
    → a ≡ after_number o → b ≡ after_number n → es ≡ ds
    → of_both o n ++ ds ≡ said_in (cond (same_bytes a b) None (says Changed number)) ++ es
both_said o n {ds = ds} e f g h =
    rw (e, f, g, h) (cond_said (same_bytes (after_number o) (after_number n)) (differs Changed o) ds)

pub record Turned (old new : List ℕ) (o n : Option LineSpan) (turn : Turn) : Type 0 where
  pub old_next : Next old turn.heads.old
  pub new_next : Next new turn.heads.new
  pub said : ahead old new o n ≡ said_in turn.said ++ ahead old new turn.heads.old turn.heads.new
  pub less : is_line o || is_line n ≡ true → left_of old new turn.heads.old turn.heads.new < left_of old new o n

module _ (old new : List ℕ) where
  module _ (o : LineSpan) (a : Next old (Some o)) where
    abbrev old_line : Line
    old_line = (spanned_next old o a).line

    abbrev old_lines : List Line
    old_lines = lines_at old o.next.0

    -- past an old line whose number comes first
    gone_turned : (other : Option LineSpan) → Next new other
        → differences (old_line ∷ old_lines) (lines_on new other) ≡ differs Gone old_line ∷ differences old_lines (lines_on new other)
        → Turned old new (Some o) other (gone_turn old o other)
    gone_turned other b e =
        let s = spanned_next old o a in
        let f = found_after old o a in
        record {
          old_next = f.next;
          new_next = b;
          said = ap (λ ls. differences ls (lines_on new other)) s.lines ∙ e ∙ alone_said Gone s.line s.number (ap (λ ls. differences ls (lines_on new other)) f.lines);
          less = λ _. omega (arith, f.left, s.onward, s.inside);
        }

  module _ (n : LineSpan) (b : Next new (Some n)) where
    abbrev new_line : Line
    new_line = (spanned_next new n b).line

    abbrev new_lines : List Line
    new_lines = lines_at new n.next.0

    -- past a new one
    new_turned : (other : Option LineSpan) → Next old other
        → differences (lines_on old other) (new_line ∷ new_lines) ≡ differs New new_line ∷ differences (lines_on old other) new_lines
        → Turned old new other (Some n) (new_turn new n other)
    new_turned other a e =
        let s = spanned_next new n b in
        let f = found_after new n b in
        record {
          old_next = a;
          new_next = f.next;
          said = ap (λ ls. differences (lines_on old other) ls) s.lines ∙ e ∙ alone_said New s.line s.number (ap (λ ls. differences (lines_on old other) ls) f.lines);
          less = λ _. omega (arith, f.left, s.onward, s.inside);
        }

  module _ (o n : LineSpan) (a : Next old (Some o)) (b : Next new (Some n)) where
    -- the lines from both on
    both_lines : ahead old new (Some o) (Some n) ≡ differences (old_line o a ∷ old_lines o a) (new_line n b ∷ new_lines n b)
    both_lines = rw ((spanned_next old o a).lines, (spanned_next new n b).lines)

    -- past two lines with one number
    both_turned : number_in (old_line o a) ≡ number_in (new_line n b) → Turned old new (Some o) (Some n) (both_turn old o new n)
    both_turned e =
        let s = spanned_next old o a in
        let t = spanned_next new n b in
        let f = found_after old o a in
        let g = found_after new n b in
        record {
          old_next = f.next;
          new_next = g.next;
          said =
              both_lines
              ∙ both_pass (old_line o a) (new_line n b) (old_lines o a) (new_lines n b) (at_once _ _ e)
              ∙ both_said s.line t.line s.number s.bytes t.bytes (ap₂ differences f.lines g.lines);
          less = λ _. omega (arith, f.left, g.left, s.onward, s.inside, t.onward, t.inside);
        }

    abbrev old_is : o.number.0 ≡ number_in (old_line o a)
    old_is = ap (λ x. x.0) (spanned_next old o a).number

    abbrev new_is : n.number.0 ≡ number_in (new_line n b)
    new_is = ap (λ x. x.0) (spanned_next new n b).number

    pair_old : o.number.0 < n.number.0 → Turned old new (Some o) (Some n) (pair_turn old o new n)
    pair_old h =
        let k : number_in (old_line o a) < number_in (new_line n b) = omega (arith, old_is, new_is) in
        rw (old_first_lem o.number.0 n.number.0 h)
        (gone_turned o a (Some n) b
        (rw (spanned_next new n b).lines (old_passes (old_line o a) (new_line n b) (old_lines o a) (new_lines n b) (old_first_lem _ _ k))))

    pair_new : n.number.0 < o.number.0 → Turned old new (Some o) (Some n) (pair_turn old o new n)
    pair_new h =
        let k : number_in (new_line n b) < number_in (old_line o a) = omega (arith, old_is, new_is) in
        rw (new_first_lem o.number.0 n.number.0 h)
        (new_turned n b (Some o) a
        (rw (spanned_next old o a).lines (new_passes (old_line o a) (new_line n b) (old_lines o a) (new_lines n b) (new_first_lem _ _ k))))

    pair_both : o.number.0 ≡ n.number.0 → Turned old new (Some o) (Some n) (pair_turn old o new n)
    pair_both e = rw (at_once o.number.0 n.number.0 e) (both_turned (sym old_is ∙ e ∙ new_is))

    pair_turned : Turned old new (Some o) (Some n) (pair_turn old o new n)
    pair_turned =
        ⊎_elim pair_old (λ h. ⊎_elim pair_new (λ k. pair_both (omega arith)) (less n.number.0 o.number.0))
        (less o.number.0 n.number.0)

  pub turned : (o n : Option LineSpan) → Next old o → Next new n → Turned old new o n (turn_of old new o n)
  unfolding differences
  turned None None a b = record { old_next = a; new_next = b; said = refl; less = λ e. absurd (false≢true e) }
  turned None (Some n) a b = new_turned n b None a (new_alone (new_line n b) (new_lines n b))
  turned (Some o) None a b = gone_turned o a None b (old_alone (old_line o a) (old_lines o a))
  turned (Some o) (Some n) a b = pair_turned o n a b

-- ---- the records of what is ahead

pub records_join : (a b : List Difference) → records_of (a ++ b) ≡ records_of a ++ records_of b
unfolding records_of
records_join [] b = refl
records_join (d ∷ a) b = ap (λ l. record_of d ++ l) (records_join a b) ∙ sym (append_assoc (record_of d) (records_of a) (records_of b))

abbrev pub records_ahead : List ℕ → List ℕ → Heads → List ℕ
records_ahead old new heads = records_of (ahead old new heads.old heads.new)

-- both next lines are known
pub record Standing (old new : List ℕ) (heads : Heads) : Type 0 where
  pub old_next : Next old heads.old
  pub new_next : Next new heads.new

pub record Onward (old new : List ℕ) (heads : Heads) (turn : Turn) : Type 0 where
  pub standing : Standing old new turn.heads
  pub records : records_ahead old new heads ≡ records_in turn.said ++ records_ahead old new turn.heads
  pub size : length (records_ahead old new heads) ≡ length (records_in turn.said) + length (records_ahead old new turn.heads)
  pub less : some_left heads ≡ true → left_of old new turn.heads.old turn.heads.new < left_of old new heads.old heads.new

module _ (old new : List ℕ) where
  -- at first all is ahead,
  pub all_ahead : {heads : Heads} → load_of old ≡ Ok tt → load_of new ≡ Ok tt → heads ≡ first_heads old new
      → Standing old new heads × (records_ahead old new heads ≡ report_of old new)
  all_ahead a b e =
      let f = found_first old a in
      let g = found_first new b in
      rw e (record { old_next = f.next; new_next = g.next }, ap₂ (λ x y. records_of (differences x y)) f.lines g.lines)

  -- then a turn's records and those ahead after it,
  pub turn_ahead : {heads : Heads} {turn : Turn} → Standing old new heads → turn ≡ turn_of old new heads.old heads.new
      → Onward old new heads turn
  turn_ahead {heads} {turn} s e =
      let t : Turned old new heads.old heads.new turn = rw e (turned old new heads.old heads.new s.old_next s.new_next) in
      let r = ap records_of t.said ∙ records_join (said_in turn.said) (ahead old new turn.heads.old turn.heads.new) in
      record {
        standing = record { old_next = t.old_next; new_next = t.new_next };
        records = r;
        size = ap length r ∙ length-append (records_in turn.said) (records_ahead old new turn.heads);
        less = t.less;
      }

  -- and at last none
  none_ahead : (o n : Option LineSpan) → is_line o || is_line n ≡ false → records_of (ahead old new o n) ≡ []
  unfolding differences records_of
  none_ahead None None e = refl
  none_ahead None (Some n) e = absurd (false≢true (sym e))
  none_ahead (Some o) n e = absurd (false≢true (sym e))

  pub all_said : (heads : Heads) → some_left heads ≡ false → records_ahead old new heads ≡ []
  all_said heads e = none_ahead heads.old heads.new e
