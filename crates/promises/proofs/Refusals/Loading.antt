-- Loading is the paper's table: the first line to which a row applies decides.
use Rattle.std.specs.Prelude.{Err, Ok, Result}
use Rattle.words.specs.declared.places.LineNumber.{LineNumber}
use Rattle.loader.specs.declared.refusals.RefusedAt.{RefusedAt}
use Rattle.loader.specs.Refusals.{refused_at}
use mathlib.Core.Path.{◌≡◌, refl, sym, ap, ◌∙◌}
use mathlib.Core.List.{List, [], ◌∷◌, ◌++◌, append_assoc, append-nil}
use Prim.Native.Nat.{ℕ, ◌+◌, ◌≤◌, ◌<◌}
use native.Mathlib.Omega.{arith}
use borrow.Author.Tests.{ltb-true, ltb-false, lt-ltb, le-ltb}
use lib.Dec.{ltb}
use lib.ListN.{length, length-append}
use Rattle.whole.specs.Digits.{leading_value}
use Rattle.words.specs.Places.{place}
use Rattle.words.specs.declared.places.Place.{Place}
use Rattle.words.proofs.Choices.{by_test}
use Rattle.loader.specs.Lines.{Line, lines_of}
use Rattle.loader.specs.Loading.{judged, by_judged, load_lines, longest_text, load_of}
use Rattle.loader.specs.declared.refusals.Refusal.{Refusal}
use Rattle.loader.specs.declared.refusals.Refusal.TheVariants.{TextTooLong}
use Rattle.promises.specs.Refusals.{Applies, row_of, NoneApplies, NoneAmong, RefusedByTable, text_too_long, by_line, PassesTable, LoadsByTable}
use Rattle.whole.proofs.Never.{never}
use Rattle.promises.proofs.Refusals.Rows.{same_row, floor_of, floor_last}
use Rattle.promises.proofs.Refusals.Judging.{Judges, offset_in, applies_at, first_row, judge}

-- the refusals that two equal answers have are equal
refusal_in : RefusedAt → Result (Unit {0}) RefusedAt → RefusedAt
refusal_in other (Ok _) = other
refusal_in other (Err e) = e

same_refused : {r s : Refusal} {p q : Place} → ◌≡◌ {A = Result (Unit {0}) RefusedAt} (refused_at r p) (refused_at s q) → (r ≡ s) × (p ≡ q)
unfolding refusal_in
same_refused {r} {s} {p} {q} e =
    let other : RefusedAt = record { refusal = r; place = p } in
    (ap (λ x. (refusal_in other x).refusal) e, ap (λ x. (refusal_in other x).place) e)

-- ---- all lines

next_load : (seen : List Line) (l : Line) (ls : List Line) (v : ℕ) → v ≡ leading_value l.bytes
    → load_lines (length (seen ++ (l ∷ []))) (floor_of (seen ++ (l ∷ []))) ls ≡ load_lines (length seen + 1) (v + 1) ls
next_load seen l ls v h =
    ap (λ n. load_lines n (floor_of (seen ++ (l ∷ []))) ls) (length-append seen (l ∷ []))
    ∙ ap (λ f. load_lines (length seen + 1) f ls) (floor_last seen l ∙ ap (λ x. x + 1) (sym h))

-- the same of lines that stand after others
record FirstFrom (seen ls : List Line) (r : Refusal) (p : Place) : Type 0 where
  before : List Line
  line : Line
  after : List Line
  lines : ls ≡ before ++ (line ∷ after)
  earlier : NoneAmong seen before
  applies : Applies (seen ++ before) line r p
  above : (s : Refusal) (q : Place) → Applies (seen ++ before) line s q → row_of r ≤ row_of s

gives_first : (seen ls : List Line) (r : Refusal) (p : Place) → load_lines (length seen) (floor_of seen) ls ≡ refused_at r p → FirstFrom seen ls r p
unfolding load_lines NoneAmong
gives_first seen [] r p e = never (cc)
gives_first seen (l ∷ ls) r p e =
    go (judged l.bytes (length seen) (floor_of seen)) (judge seen l) e (λ k. gives_first (seen ++ (l ∷ [])) ls r p k)
  where
    go : (x : Result LineNumber RefusedAt) → Judges seen l x → by_judged x l.start (λ above. load_lines (length seen + 1) above ls) ≡ refused_at r p
        → (load_lines (length (seen ++ (l ∷ []))) (floor_of (seen ++ (l ∷ []))) ls ≡ refused_at r p → FirstFrom (seen ++ (l ∷ [])) ls r p)
        → FirstFrom seen (l ∷ ls) r p
    go (Ok n) j k later =
        let f = later (next_load seen l ls n.0 j.0 ∙ k) in
        let same = append_assoc seen (l ∷ []) f.before in
        record {
          before = l ∷ f.before;
          line = f.line;
          after = f.after;
          lines = ap (l ∷◌) f.lines;
          earlier = (j.1, f.earlier);
          applies = rw (← same) f.applies;
          above = λ s q a. f.above s q (rw same a);
        }
    go (Err e) j k later =
        let g : e.refusal ≡ r = (same_refused k).0 in
        let h : place (l.start + e.place.0) ≡ p = (same_refused k).1 in
        let same = append-nil seen in
        record {
          before = [];
          line = l;
          after = ls;
          lines = refl;
          earlier = tt;
          applies = rw same (rw (g, h) at j.0);
          above = λ t u a. rw g at (j.1 t u (rw same at a));
        }

first_given : (seen before : List Line) (l : Line) (after : List Line) (r : Refusal) (p : Place) → NoneAmong seen before
    → Applies (seen ++ before) l r p → ((s : Refusal) (q : Place) → Applies (seen ++ before) l s q → row_of r ≤ row_of s)
    → load_lines (length seen) (floor_of seen) (before ++ (l ∷ after)) ≡ refused_at r p
unfolding load_lines NoneAmong
first_given seen [] l after r p h a m = go (judged l.bytes (length seen) (floor_of seen)) (judge seen l)
  where
    here : Applies seen l r p
    here = rw (append-nil seen) at a

    go : (x : Result LineNumber RefusedAt) → Judges seen l x → by_judged x l.start (λ above. load_lines (length seen + 1) above after) ≡ refused_at r p
    go (Ok n) j = absurd (j.1 r p here)
    go (Err x) j =
        let row : 0 < row_of x.refusal = omega (arith, first_row seen l x.refusal (place (l.start + x.place.0)) j.0) in
        let e = same_row x.refusal r row (j.1 r p here) (m x.refusal (place (l.start + x.place.0)) (rw (append-nil seen) j.0)) in
        let f = applies_at seen l x.refusal (place (l.start + x.place.0)) j.0 ∙ ap (λ t. place (l.start + offset_in l t)) e ∙ sym (applies_at seen l r p here) in
        ap (λ t. refused_at t (place (l.start + x.place.0))) e ∙ ap (refused_at r) f
first_given seen (b ∷ before) l after r p h a m =
    go (judged b.bytes (length seen) (floor_of seen)) (judge seen b)
    (first_given (seen ++ (b ∷ [])) before l after r p h.1 (rw (append_assoc seen (b ∷ []) before) a)
    (λ s q c. m s q (rw (append_assoc seen (b ∷ []) before) at c)))
  where
    go : (x : Result LineNumber RefusedAt) → Judges seen b x
        → load_lines (length (seen ++ (b ∷ []))) (floor_of (seen ++ (b ∷ []))) (before ++ (l ∷ after)) ≡ refused_at r p
        → by_judged x b.start (λ above. load_lines (length seen + 1) above (before ++ (l ∷ after))) ≡ refused_at r p
    go (Ok n) j k = sym (next_load seen b (before ++ (l ∷ after)) n.0 j.0) ∙ k
    go (Err e) j k = absurd (h.0 e.refusal (place (b.start + e.place.0)) j.0)

passes : (seen ls : List Line) → load_lines (length seen) (floor_of seen) ls ≡ Ok tt → NoneAmong seen ls
unfolding load_lines NoneAmong
passes seen [] e = tt
passes seen (l ∷ ls) e = go (judged l.bytes (length seen) (floor_of seen)) (judge seen l) e (λ k. passes (seen ++ (l ∷ [])) ls k)
  where
    go : (x : Result LineNumber RefusedAt) → Judges seen l x → by_judged x l.start (λ above. load_lines (length seen + 1) above ls) ≡ Ok tt
        → (load_lines (length (seen ++ (l ∷ []))) (floor_of (seen ++ (l ∷ []))) ls ≡ Ok tt → NoneAmong (seen ++ (l ∷ [])) ls)
        → NoneApplies seen l × NoneAmong (seen ++ (l ∷ [])) ls
    go (Ok n) j k later = (j.1, later (next_load seen l ls n.0 j.0 ∙ k))
    go (Err e) j k later = never (cc)

passed : (seen ls : List Line) → NoneAmong seen ls → load_lines (length seen) (floor_of seen) ls ≡ Ok tt
unfolding load_lines NoneAmong
passed seen [] h = refl
passed seen (l ∷ ls) h = go (judged l.bytes (length seen) (floor_of seen)) (judge seen l) (passed (seen ++ (l ∷ [])) ls h.1)
  where
    go : (x : Result LineNumber RefusedAt) → Judges seen l x → load_lines (length (seen ++ (l ∷ []))) (floor_of (seen ++ (l ∷ []))) ls ≡ Ok tt
        → by_judged x l.start (λ above. load_lines (length seen + 1) above ls) ≡ Ok tt
    go (Ok n) j k = sym (next_load seen l ls n.0 j.0) ∙ k
    go (Err e) j k = absurd (h.0 e.refusal (place (l.start + e.place.0)) j.0)

-- ---- a text

module _ (text : List ℕ) where
  pub refused_row : (r : Refusal) (p : Place) → load_of text ≡ refused_at r p → RefusedByTable text r p
  unfolding load_of floor_of
  refused_row r p e =
      by_test (ltb longest_text (length text))
      (λ t.
      let f = same_refused (rw t at e) in
      let g : r ≡ TextTooLong = sym f.0 in
      let h : p ≡ place 0 = sym f.1 in
      rw (g, h) (text_too_long (ltb-true _ _ t)))
      (λ t.
      let f = gives_first [] (lines_of text) r p (rw t at e) in
      by_line (ltb-false _ _ t)
      (record {
        before = f.before;
        line = f.line;
        after = f.after;
        lines = f.lines;
        earlier = f.earlier;
        applies = f.applies;
        above = f.above;
      }))

  pub row_refused : (r : Refusal) (p : Place) → RefusedByTable text r p → load_of text ≡ refused_at r p
  unfolding load_of floor_of
  row_refused r p (text_too_long h) = rw (lt-ltb longest_text (length text) h)
  row_refused r p (by_line h f) =
      rw (le-ltb longest_text (length text) h)
      (ap (load_lines 0 0) f.lines ∙ first_given [] f.before f.line f.after r p f.earlier f.applies f.above)

  fine_passes : load_of text ≡ Ok tt → PassesTable text
  unfolding load_of floor_of
  fine_passes e =
      by_test (ltb longest_text (length text))
      (λ t. let f = rw t at e in never (cc))
      (λ t. record { short = ltb-false _ _ t; lines = passes [] (lines_of text) (rw t at e) })

  passes_fine : PassesTable text → load_of text ≡ Ok tt
  unfolding load_of floor_of
  passes_fine h = rw (le-ltb longest_text (length text) h.short) (passed [] (lines_of text) h.lines)

pub loads_by_table : LoadsByTable
loads_by_table text =
    record {
      refused = λ r p. (refused_row text r p, row_refused text r p);
      fine = (fine_passes text, passes_fine text);
    }
