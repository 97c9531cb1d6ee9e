-- A line's bytes stand in the text from the line's place on.
use mathlib.Core.Path.{◌≡◌, refl, sym, ap, ◌∙◌}
use mathlib.Core.Bool.{Bool, true, false, false≢true}
use mathlib.Core.List.{List, [], ◌∷◌, ◌++◌, append_assoc}
use Prim.Native.Nat.{ℕ, ◌+◌}
use native.Mathlib.Omega.{arith}
use lib.Dec.{eqb}
use lib.ListN.{length, length-append}
use Rattle.words.proofs.Choices.{by_test, both}
use Rattle.loader.specs.Lines.{Line, ends_line, dropped, with_byte, lines_from}
use Rattle.promises.specs.Refusals.{LiesIn, LinesLieInText}

-- ---- the first line of some bytes begins where they do

abbrev BeginsAt : ℕ → List ℕ → List Line → Type 0
BeginsAt p s [] = Unit {0}
BeginsAt p s (l ∷ ls) = (l.start ≡ p) × ((after : List ℕ) × (s ≡ l.bytes ++ after))

-- a byte 13 is dropped only in front of a line that has no more bytes
dropped_begins : (p b : ℕ) (t : List ℕ) → ends_line b ≡ false → dropped b t ≡ true → BeginsAt p (b ∷ t) (with_byte p b true (lines_from (p + 1) t))
unfolding lines_from
dropped_begins p b [] n e = absurd (false≢true e)
dropped_begins p b (c ∷ t) n e = let h = both (eqb b 13) (ends_line c) e in rw (n, h.1) (refl, (b ∷ c ∷ t, refl))

joins_front : (p b : ℕ) (t : List ℕ) (ls : List Line) → ends_line b ≡ false → BeginsAt (p + 1) t ls → BeginsAt p (b ∷ t) (with_byte p b false ls)
joins_front p b t [] n h = rw n (refl, (t, refl))
joins_front p b t (l ∷ ls) n h = rw n (refl, (h.1.0, ap (b ∷◌) h.1.1))

first_begins : (p : ℕ) (s : List ℕ) → BeginsAt p s (lines_from p s)
unfolding lines_from
first_begins p [] = tt
first_begins p (b ∷ t) =
    by_test (ends_line b)
    (λ e. rw e (refl, (b ∷ t, refl)))
    (λ e. by_test (dropped b t)
    (λ d. let h = dropped_begins p b t e d in rw d h)
    (λ d. let h = joins_front p b t (lines_from (p + 1) t) e (first_begins (p + 1) t) in rw d h))

-- ---- and so do all

abbrev AllLie : List ℕ → List Line → Type 0
AllLie text [] = Unit {0}
AllLie text (l ∷ ls) = LiesIn text l × AllLie text ls

abbrev FirstLies : List ℕ → List Line → Type 0
FirstLies text [] = Unit {0}
FirstLies text (l ∷ ls) = LiesIn text l

begins_lies : (pre s : List ℕ) (p : ℕ) (ls : List Line) → length pre ≡ p → BeginsAt p s ls → FirstLies (pre ++ s) ls
begins_lies pre s p [] e h = tt
begins_lies pre s p (l ∷ ls) e h = record { before = pre; after = h.1.0; there = ap (pre ++◌) h.1.1; place = e ∙ sym h.0 }

-- one byte changes the first line alone
with_lies : (text : List ℕ) (p b : ℕ) (ends drops : Bool) (ls : List Line) → ends_line b ≡ ends → FirstLies text (with_byte p b drops ls) → AllLie text ls
    → AllLie text (with_byte p b drops ls)
with_lies text p b true drops ls e f h = rw e (rw e at f, h)
with_lies text p b false true [] e f h = rw e tt
with_lies text p b false true (l ∷ ls) e f h = rw e (rw e at f, h.1)
with_lies text p b false false [] e f h = rw e (rw e at f, tt)
with_lies text p b false false (l ∷ ls) e f h = rw e (rw e at f, h.1)

all_lie : (pre s : List ℕ) (p : ℕ) → length pre ≡ p → AllLie (pre ++ s) (lines_from p s)
unfolding lines_from
all_lie pre [] p e = tt
all_lie pre (b ∷ t) p e =
    let rest : AllLie (pre ++ (b ∷ t)) (lines_from (p + 1) t) =
    rw (append_assoc pre (b ∷ []) t) at (all_lie (pre ++ (b ∷ [])) t (p + 1) (omega (arith, length-append pre (b ∷ []), e))) in
    with_lies (pre ++ (b ∷ t)) p b (ends_line b) (dropped b t) (lines_from (p + 1) t) refl
    (begins_lies pre (b ∷ t) p (lines_from p (b ∷ t)) e (first_begins p (b ∷ t))) rest

lies_among : (text : List ℕ) (before : List Line) (l : Line) (after : List Line) → AllLie text (before ++ (l ∷ after)) → LiesIn text l
lies_among text [] l after h = h.0
lies_among text (b ∷ before) l after h = lies_among text before l after h.1

pub lines_lie_in_text : LinesLieInText
lines_lie_in_text text before l after e = lies_among text before l after (rw e at (all_lie [] text 0 refl))
