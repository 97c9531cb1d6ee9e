-- Only a text's own index is taken for it, and the lines that name a line rise.
use Rattle.std.specs.Prelude.{Err, Ok, Result}
use Rattle.loader.specs.declared.refusals.RefusedAt.{RefusedAt}
use mathlib.Core.Path.{◌≡◌, refl, sym, ap, ap₂, ◌∙◌}
use mathlib.Core.Bool.{true, false, false≢true}
use mathlib.Core.List.{List, [], ◌∷◌, ◌++◌, append-nil}
use Prim.Native.Nat.{ℕ, ◌+◌, ◌≤◌}
use native.Mathlib.Omega.{arith}
use borrow.Author.Tests.{eqb-true, eq-eqb}
use lib.Dec.{eqb}
use lib.ListN.{length, take, drop_of_length-le}
use lib.Seq.{length-take-le}
use Rattle.whole.specs.Digits.{leading_value}
use Rattle.words.specs.Spellings.{same_bytes}
use Rattle.words.proofs.Choices.{by_test, both}
use Rattle.space.specs.Moves.{overlaid}
use Rattle.loader.specs.Lines.{Line, lines_of, after_number}
use Rattle.loader.proofs.Rising.{Rising, recipe}
use Rattle.reader.specs.Lines.{judgement}
use Rattle.rows.specs.bridge.Rows.{cells, Tabled}
use Rattle.index.specs.Callers.{line_names, callers_among}
use Rattle.index.specs.Index.{pairs_at, index_words, index_of, indexed_of, index_after, held_after, is_held, is_index_of}
use Rattle.index.specs.Law.{RisesFrom, OwnIndexAlone, OwnIndexTaken, CallersRise}
use Rattle.index.proofs.Answering.{indexable, index_long, index_tabled}

-- ---- the same words

same_true : (a b : List ℕ) → same_bytes a b ≡ true → a ≡ b
unfolding same_bytes
same_true [] [] e = refl
same_true [] (y ∷ b) e = absurd (false≢true e)
same_true (x ∷ a) [] e = absurd (false≢true e)
same_true (x ∷ a) (y ∷ b) e = let t = both (eqb x y) (same_bytes a b) e in ap₂ (λ h l. h ∷ l) (eqb-true x y t.0) (same_true a b t.1)

same_self : (a : List ℕ) → same_bytes a a ≡ true
unfolding same_bytes
same_self [] = refl
same_self (x ∷ a) = rw (eq-eqb x x refl) (same_self a)

own_by : (text words : List ℕ) (i : Result (Unit {0}) RefusedAt) → indexed_of text ≡ i → is_held text words i ≡ true → (indexed_of text ≡ Ok tt) × (words ≡ index_of text)
own_by text words (Ok _) e h = (e, sym (same_true (index_of text) words h))
own_by text words (Err x) e h = absurd (false≢true h)

pub own_index_alone : OwnIndexAlone
own_index_alone text words h = own_by text words (indexed_of text) refl h

pub own_index_taken : OwnIndexTaken
own_index_taken text e = ap (is_held text (index_of text)) e ∙ same_self (index_of text)

-- and no other number of words
pub other_length : (text words : List ℕ) → (length words ≡ index_words → ⊥) → false ≡ is_index_of text words
other_length text words h =
    by_test (is_index_of text words)
    (λ t. let o = own_index_alone text words t in absurd (h (ap length o.1 ∙ index_long text (indexable text o.0))))
    (λ t. sym t)

-- an index that was made has all its words
pub made_long : (text before : List ℕ) {own : List ℕ} → indexed_of text ≡ Ok tt → own ≡ index_after text before → length own ≡ index_words
made_long text before e o = ap length (o ∙ ap (held_after text before) e) ∙ index_long text (indexable text e)

-- ---- the table that a text's own index begins with

module _ (text words : List ℕ) (own : is_index_of text words ≡ true) where
  abbrev is_own : (indexed_of text ≡ Ok tt) × (words ≡ index_of text)
  is_own = own_index_alone text words own

  pub own_long : pairs_at ≤ length words
  own_long = omega (arith, ap length is_own.1, index_long text (indexable text is_own.0))

  pub front_long : length (take pairs_at words) ≡ pairs_at
  front_long = length-take-le pairs_at words own_long

  -- laid over a room as long it is all that stands there
  pub front_tabled : (room : List ℕ) {after : List ℕ} → length room ≡ cells → after ≡ overlaid room 0 (take pairs_at words) → Tabled text after
  unfolding overlaid
  front_tabled room long e =
      let n : length room ≤ 0 + length (take pairs_at words) = omega (arith, front_long, long) in
      let all : overlaid room 0 (take pairs_at words) ≡ take pairs_at (index_of text)
      = ap (λ l. take pairs_at words ++ l) (drop_of_length-le room n) ∙ append-nil (take pairs_at words) ∙ ap (take pairs_at) is_own.1 in
      rw (e ∙ all) (index_tabled text (indexable text is_own.0))

-- ---- the lines that name a line

rises_lower : (low floor : ℕ) (ns : List ℕ) → low ≤ floor → RisesFrom floor ns → RisesFrom low ns
rises_lower low floor [] h r = tt
rises_lower low floor (n ∷ ns) h r = (omega (arith, r.0), r.1)

callers_rise_from : (n floor : ℕ) (ls : List Line) → Rising floor ls → RisesFrom floor (callers_among n ls)
unfolding callers_among
callers_rise_from n floor [] r = tt
callers_rise_from n floor (l ∷ ls) r =
    let rest = callers_rise_from n (leading_value l.bytes + 1) ls r.2 in
    by_test (line_names n (judgement (after_number l)))
    (λ e. rw e (r.1, rest))
    (λ e. rw e (rises_lower floor (leading_value l.bytes + 1) (callers_among n ls) (omega (arith, r.1)) rest))

pub callers_rise : CallersRise
callers_rise text n e = callers_rise_from n.0 0 (lines_of text) (recipe text e).rising
