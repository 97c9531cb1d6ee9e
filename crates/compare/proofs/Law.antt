-- The law of what is reported (specs/Law.antt): by the line that comes first, on either side or on both.
use mathlib.Core.Path.{◌≡◌, refl, ap, ◌∙◌}
use mathlib.Core.Logic.{⊎_elim}
use mathlib.Core.Bool.{Bool, true, false, cond}
use mathlib.Core.List.{List, [], ◌∷◌, ◌++◌}
use Prim.Native.Nat.{ℕ, ◌+◌, ◌≤◌, ◌<◌}
use native.Mathlib.Nat.{le_refl}
use native.Mathlib.Omega.{arith}
use borrow.Author.Tests.{ne_eqb, eqb-true}
use lib.Dec.{eqb}
use Rattle.whole.proofs.Numbers.{less}
use Rattle.words.specs.Places.{line_number}
use Rattle.words.specs.Spellings.{same_bytes}
use Rattle.words.proofs.Choices.{by_test}
use Rattle.loader.specs.Lines.{Line, lines_of, after_number}
use Rattle.loader.proofs.Rising.{Rising, recipe}
use Rattle.compare.specs.Differences.{number_in, differs, of_both, differences}
use Rattle.compare.specs.Law.{missing, entry_in, due_of, reported_of, Rises, ReportsJustDifferences}
use Rattle.compare.specs.declared.merging.Way.{Way}
use Rattle.compare.specs.declared.merging.Way.TheVariants.{Gone, New, Changed}
use Rattle.compare.specs.declared.merging.Difference.{Difference}
use Rattle.compare.proofs.Firsts.{old_first_lem, new_first_lem, at_once, old_alone, new_alone, old_passes, new_passes, both_pass}

-- ---- what is reported of one number

module _ (n : ℕ) where
  -- lines that rise have no number below the first
  missing_below : (floor : ℕ) (ls : List Line) → n < floor → Rising floor ls → entry_in n ls ≡ missing
  unfolding entry_in
  missing_below floor [] h r = refl
  missing_below floor (l ∷ ls) h r =
      rw (ne_eqb (number_in l) n (λ e. absurd (omega (arith, r.1))))
      (missing_below (number_in l + 1) ls (omega (arith, r.1)) r.2)

  -- so the lines after the one with the number have it no more
  missing_after : (l : Line) (ls : List Line) → eqb (number_in l) n ≡ true → Rising (number_in l + 1) ls → entry_in n ls ≡ missing
  missing_after l ls t r = missing_below (number_in l + 1) ls (omega (arith, eqb-true (number_in l) n t)) r

  -- a difference of a line with the number, or with another
  own : (way : Way) (l : Line) (ds : List Difference) → eqb (number_in l) n ≡ true → reported_of n ds ≡ []
      → reported_of n (differs way l ∷ ds) ≡ record { way = way; number = line_number n } ∷ []
  unfolding reported_of
  own way l ds t e = rw (t, e, eqb-true (number_in l) n t)

  other : (way : Way) (l : Line) (ds : List Difference) → eqb (number_in l) n ≡ false → reported_of n (differs way l ∷ ds) ≡ reported_of n ds
  unfolding reported_of
  other way l ds t = rw t

  module _ (o : Line) (os new : List Line) (ds : List Difference)
      (later : reported_of n ds ≡ due_of n (entry_in n os) (entry_in n new)) (rises : Rising (number_in o + 1) os) where
    -- an old line whose number the new edition has not
    past_old : (eqb (number_in o) n ≡ true → entry_in n new ≡ missing)
        → reported_of n (differs Gone o ∷ ds) ≡ due_of n (entry_in n (o ∷ os)) (entry_in n new)
    unfolding entry_in
    past_old none =
        by_test (eqb (number_in o) n)
        (λ t. let e = later ∙ rw (missing_after o os t rises, none t) in own Gone o ds t e ∙ rw (t, none t))
        (λ t. other Gone o ds t ∙ later ∙ rw t)

  module _ (m : Line) (old ms : List Line) (ds : List Difference)
      (later : reported_of n ds ≡ due_of n (entry_in n old) (entry_in n ms)) (rises : Rising (number_in m + 1) ms) where
    -- a new line whose number the old edition has not
    past_new : (eqb (number_in m) n ≡ true → entry_in n old ≡ missing)
        → reported_of n (differs New m ∷ ds) ≡ due_of n (entry_in n old) (entry_in n (m ∷ ms))
    unfolding entry_in
    past_new none =
        by_test (eqb (number_in m) n)
        (λ t. let e = later ∙ rw (missing_after m ms t rises, none t) in own New m ds t e ∙ rw (t, none t))
        (λ t. other New m ds t ∙ later ∙ rw t)

  module _ (o m : Line) (os ms : List Line) (ds : List Difference) (same : number_in o ≡ number_in m)
      (later : reported_of n ds ≡ due_of n (entry_in n os) (entry_in n ms))
      (olds : Rising (number_in o + 1) os) (news : Rising (number_in m + 1) ms) where
    both_own : (alike : Bool) → eqb (number_in o) n ≡ true → reported_of n ds ≡ []
        → reported_of n (cond alike [] (differs Changed o ∷ []) ++ ds) ≡ cond alike [] (record { way = Changed; number = line_number n } ∷ [])
    both_own true t e = e
    both_own false t e = own Changed o ds t e

    both_other : (alike : Bool) → eqb (number_in o) n ≡ false
        → reported_of n (cond alike [] (differs Changed o ∷ []) ++ ds) ≡ reported_of n ds
    both_other true t = refl
    both_other false t = other Changed o ds t

    -- two lines with one number
    past_both : reported_of n (of_both o m ++ ds) ≡ due_of n (entry_in n (o ∷ os)) (entry_in n (m ∷ ms))
    unfolding entry_in
    past_both =
        let alike = same_bytes (after_number o) (after_number m) in
        by_test (eqb (number_in o) n)
        (λ t. let u : eqb (number_in m) n ≡ true = rw same at t in
        let e = later ∙ rw (missing_after o os t olds, missing_after m ms u news) in
        both_own alike t e ∙ rw (t, u))
        (λ t. let u : eqb (number_in m) n ≡ false = rw same at t in both_other alike t ∙ later ∙ rw (t, u))

  -- ---- of the merge

  reported_new : (g : ℕ) (new : List Line) → Rising g new → reported_of n (differences [] new) ≡ due_of n missing (entry_in n new)
  unfolding entry_in differences reported_of
  reported_new g [] r = refl
  reported_new g (m ∷ ms) r =
      ap (reported_of n) (new_alone m ms)
      ∙ past_new m [] ms (differences [] ms) (reported_new (number_in m + 1) ms r.2) r.2 (λ t. refl)

  -- the first line is the floor
  floored : (floor : ℕ) (l : Line) (ls : List Line) → Rising floor (l ∷ ls) → Rising (number_in l) (l ∷ ls)
  floored floor l ls r = (r.0, le_refl (number_in l), r.2)

  module _ (f : ℕ) (o : Line) (os : List Line) (r : Rising f (o ∷ os))
      (later : (g : ℕ) (new : List Line) → Rising g new → reported_of n (differences os new) ≡ due_of n (entry_in n os) (entry_in n new)) where
    abbrev Due : List Line → Type 0
    Due new = reported_of n (differences (o ∷ os) new) ≡ due_of n (entry_in n (o ∷ os)) (entry_in n new)

    module _ (g : ℕ) (m : Line) (ms : List Line) (s : Rising g (m ∷ ms)) where
      due_old : number_in o < number_in m → Due (m ∷ ms)
      due_old h =
          ap (reported_of n) (old_passes o m os ms (old_first_lem (number_in o) (number_in m) h))
          ∙ past_old o os (m ∷ ms) (differences os (m ∷ ms)) (later g (m ∷ ms) s) r.2
          (λ t. missing_below (number_in m) (m ∷ ms) (omega (arith, eqb-true (number_in o) n t)) (floored g m ms s))

      due_new : Due ms → number_in m < number_in o → Due (m ∷ ms)
      due_new e h =
          ap (reported_of n) (new_passes o m os ms (new_first_lem (number_in o) (number_in m) h))
          ∙ past_new m (o ∷ os) ms (differences (o ∷ os) ms) e s.2
          (λ t. missing_below (number_in o) (o ∷ os) (omega (arith, eqb-true (number_in m) n t)) (floored f o os r))

      due_both : number_in o ≡ number_in m → Due (m ∷ ms)
      due_both e =
          ap (reported_of n) (both_pass o m os ms (at_once (number_in o) (number_in m) e))
          ∙ past_both o m os ms (differences os ms) e (later (number_in m + 1) ms s.2) r.2 s.2

    due : (g : ℕ) (new : List Line) → Rising g new → Due new
    unfolding entry_in
    due g [] s = ap (reported_of n) (old_alone o os) ∙ past_old o os [] (differences os []) (later 0 [] tt) r.2 (λ t. refl)
    due g (m ∷ ms) s =
        let e = due (number_in m + 1) ms s.2 in
        ⊎_elim (due_old g m ms s)
        (λ h. ⊎_elim (due_new g m ms s e) (λ k. due_both g m ms s (omega arith)) (less (number_in m) (number_in o)))
        (less (number_in o) (number_in m))

  reported : (f : ℕ) (old : List Line) → Rising f old → (g : ℕ) (new : List Line) → Rising g new
      → reported_of n (differences old new) ≡ due_of n (entry_in n old) (entry_in n new)
  unfolding entry_in
  reported f [] r g new s = reported_new g new s
  reported f (o ∷ os) r g new s = due f o os r (λ h ls t. reported (number_in o + 1) os r.2 h ls t) g new s

-- ---- once, and rising

rises_lower : (low floor : ℕ) (ds : List Difference) → low ≤ floor → Rises floor ds → Rises low ds
rises_lower low floor [] h r = tt
rises_lower low floor (d ∷ ds) h r = (omega (arith, r.0), r.1)

-- so of a new edition alone
rises_new : (floor : ℕ) (new : List Line) → Rising floor new → Rises floor (differences [] new)
unfolding differences
rises_new floor [] s = tt
rises_new floor (m ∷ ms) s = (s.1, rises_new (number_in m + 1) ms s.2)

module _ (o : Line) (os : List Line)
    (later : (floor : ℕ) (new : List Line) → Rising floor os → Rising floor new → Rises floor (differences os new)) where
  module _ (floor : ℕ) (m : Line) (ms : List Line) (r : Rising floor (o ∷ os)) (s : Rising floor (m ∷ ms)) where
    rises_old : number_in o < number_in m → Rises floor (differences (o ∷ os) (m ∷ ms))
    rises_old h =
        rw (old_passes o m os ms (old_first_lem (number_in o) (number_in m) h))
        (r.1, later (number_in o + 1) (m ∷ ms) r.2 (s.0, omega arith, s.2))

    rises_added : (Rising (number_in m + 1) (o ∷ os) → Rises (number_in m + 1) (differences (o ∷ os) ms))
        → number_in m < number_in o → Rises floor (differences (o ∷ os) (m ∷ ms))
    rises_added e h =
        rw (new_passes o m os ms (new_first_lem (number_in o) (number_in m) h)) (s.1, e (r.0, omega arith, r.2))

    unless : (alike : Bool) → Rises (number_in o + 1) (differences os ms)
        → Rises floor (cond alike [] (differs Changed o ∷ []) ++ differences os ms)
    unless true e = rises_lower floor (number_in o + 1) (differences os ms) (omega (arith, r.1)) e
    unless false e = (r.1, e)

    rises_both : number_in o ≡ number_in m → Rises floor (differences (o ∷ os) (m ∷ ms))
    rises_both e =
        rw (both_pass o m os ms (at_once (number_in o) (number_in m) e))
        (unless (same_bytes (after_number o) (after_number m)) (later (number_in o + 1) ms r.2 (rw e s.2)))

  rises_against : (floor : ℕ) (new : List Line) → Rising floor (o ∷ os) → Rising floor new → Rises floor (differences (o ∷ os) new)
  rises_against floor [] r s = rw (old_alone o os) (r.1, later (number_in o + 1) [] r.2 tt)
  rises_against floor (m ∷ ms) r s =
      let e : Rising (number_in m + 1) (o ∷ os) → Rises (number_in m + 1) (differences (o ∷ os) ms)
      = λ t. rises_against (number_in m + 1) ms t s.2 in
      ⊎_elim (rises_old floor m ms r s)
      (λ h. ⊎_elim (rises_added floor m ms r s e) (λ k. rises_both floor m ms r s (omega arith)) (less (number_in m) (number_in o)))
      (less (number_in o) (number_in m))

rises : (old : List Line) (floor : ℕ) (new : List Line) → Rising floor old → Rising floor new → Rises floor (differences old new)
rises [] floor new r s = rises_new floor new s
rises (o ∷ os) floor new r s = rises_against o os (λ h ls t u. rises os h ls t u) floor new r s

-- ---- of all editions that load

pub reports_just_differences : ReportsJustDifferences
reports_just_differences old new a b =
    let r = (recipe old a).rising in
    let s = (recipe new b).rising in
    record { reported = λ n. reported n 0 (lines_of old) r 0 (lines_of new) s; rising = rises (lines_of old) 0 (lines_of new) r s }
