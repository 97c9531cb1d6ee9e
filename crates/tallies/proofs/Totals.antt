-- The totals with one run more, as the code counts it: nothing reaches its limit before 65,535 records are there.
use mathlib.Core.Path.{◌≡◌, refl, sym, ap, ◌∙◌}
use mathlib.Core.Bool.{Bool, true, false}
use mathlib.Core.List.{List, [], ◌∷◌, ◌++◌}
use Prim.Native.Nat.{ℕ, zero, suc, ◌+◌, ◌*◌, ◌≤◌, ◌<◌, zero-le}
use native.Mathlib.Omega.{arith}
use borrow.Author.Tests.{le-leb, lt-ltb, eq-eqb, ne_eqb, eqb-true, eqb-false}
use lib.Dec.{eqb}
use lib.ListN.{length, get_or, set, replicate, length-append, length-set}
use lib.Seq.{ext_get_or, get_or-set_same, get_or-set_other}
use Rattle.words.proofs.Choices.{by_test}
use Rattle.records.specs.Records.{largest_steps}
use Rattle.records.specs.declared.reading.Outcome.{Outcome}
use Rattle.records.specs.declared.reading.Outcome.TheVariants.{Ended, Stopped, Out, Error}
use Rattle.records.specs.declared.reading.Run.{Run}
use Rattle.records.proofs.Sound.{CodeWithin}
use Rattle.tallies.specs.Totals.{is_ended, is_stopped, is_out, is_error, is_code, ones, how_many, all_steps, codes_from, totals_of, most_records}
use Rattle.tallies.specs.bridge.Counting.{no_runs, one_more, more_steps, tally, counted_as, with_run}

-- ---- how many

ones_most : (t : Bool) → ones t ≤ 1
ones_most true = omega arith
ones_most false = omega arith

count_most : (so : Outcome → Bool) (rs : List Run) → how_many so rs ≤ length rs
unfolding how_many
count_most so [] = zero-le
count_most so (r ∷ rs) = omega (arith, ones_most (so r.outcome), count_most so rs)

count_last : (so : Outcome → Bool) (rs : List Run) (r : Run) → how_many so (rs ++ (r ∷ [])) ≡ how_many so rs + ones (so r.outcome)
unfolding how_many
count_last so [] r = omega arith
count_last so (q ∷ rs) r = omega (arith, count_last so rs r)

one_more_lem : (n : ℕ) → n < most_records → one_more n ≡ n + 1
unfolding one_more
one_more_lem n h = rw (lt-ltb n most_records h)

-- ---- of each error number

codes_length : (c n : ℕ) (rs : List Run) → length (codes_from c n rs) ≡ n
unfolding codes_from
codes_length c zero rs = refl
codes_length c (suc n) rs = ap suc (codes_length (c + 1) n rs)

codes_at : (c n i : ℕ) (rs : List Run) → i < n → get_or (codes_from c n rs) i 0 ≡ how_many (is_code (c + i)) rs
unfolding codes_from
codes_at c zero i rs h = absurd (omega arith)
codes_at c (suc n) zero rs h = let e : c ≡ c + 0 = omega arith in ap (λ k. how_many (is_code k) rs) e
codes_at c (suc n) (suc i) rs h =
    let e : c + 1 + i ≡ c + suc i = omega arith in codes_at (c + 1) n i rs (omega arith) ∙ ap (λ k. how_many (is_code k) rs) e

module _ (rs : List Run) (few : length rs < most_records) where
  module _ (r : Run) where
    counted : (so : Outcome → Bool) → so r.outcome ≡ true → one_more (how_many so rs) ≡ how_many so (rs ++ (r ∷ []))
    counted so t = one_more_lem (how_many so rs) (omega (arith, count_most so rs)) ∙ sym (count_last so rs r ∙ rw t)

    passed : (so : Outcome → Bool) → so r.outcome ≡ false → how_many so rs ≡ how_many so (rs ++ (r ∷ []))
    passed so t = sym (count_last so rs r ∙ rw t (omega arith))

    -- no other error number is counted
    codes_kept : (c n : ℕ) → ((k : ℕ) → is_code k r.outcome ≡ false) → codes_from c n rs ≡ codes_from c n (rs ++ (r ∷ []))
    unfolding codes_from
    codes_kept c zero none = refl
    codes_kept c (suc n) none = rw (← (passed (is_code c) (none c)), ← (codes_kept (c + 1) n none))

  -- and the one that is met, once
  codes_set : (k steps n : ℕ) → k < n
      → set (codes_from 0 n rs) k (one_more (get_or (codes_from 0 n rs) k 0)) ≡ codes_from 0 n (rs ++ (record { outcome = Error k; steps = steps } ∷ []))
  codes_set k steps n h =
      let r : Run = record { outcome = Error k; steps = steps } in
      let old = codes_from 0 n rs in
      ext_get_or 0 (set old k (one_more (get_or old k 0))) (codes_from 0 n (rs ++ (r ∷ [])))
      (length-set old k (one_more (get_or old k 0)) ∙ codes_length 0 n rs ∙ sym (codes_length 0 n (rs ++ (r ∷ []))))
      (λ i l. let m : i < n = omega (arith, length-set old k (one_more (get_or old k 0)), codes_length 0 n rs) in
      by_test (eqb k i)
      (λ t. let e : i ≡ k = omega (arith, eqb-true k i t) in
      rw (e, get_or-set_same old k (one_more (get_or old k 0)) 0 (omega (arith, codes_length 0 n rs)), codes_at 0 n k rs h, codes_at 0 n k (rs ++ (r ∷ [])) h)
      (counted r (is_code (0 + k)) (eq-eqb k (0 + k) (omega arith))))
      (λ t. rw (get_or-set_other old k i (one_more (get_or old k 0)) 0 (λ e. eqb-false k i t (sym e)), codes_at 0 n i rs m, codes_at 0 n i (rs ++ (r ∷ [])) m)
      (passed r (is_code (0 + i)) (ne_eqb k (0 + i) (λ e. eqb-false k i t (omega arith))))))

-- ---- all totals

tally_alike : {a a' b b' c c' d d' e e' g g' : ℕ} {f f' : List ℕ}
    → a ≡ a' → b ≡ b' → c ≡ c' → d ≡ d' → e ≡ e' → f ≡ f' → g ≡ g' → tally a b c d e f g ≡ tally a' b' c' d' e' f' g'
tally_alike p q r s t u v = λ i. tally (p i) (q i) (r i) (s i) (t i) (u i) (v i)

steps_last : (rs : List Run) (r : Run) → all_steps (rs ++ (r ∷ [])) ≡ all_steps rs + r.steps
unfolding all_steps
steps_last [] r = omega arith
steps_last (q ∷ rs) r = omega (arith, steps_last rs r)

-- so many runs, and no more steps than they can have
pub record Few (rs : List Run) : Type 0 where
  pub count : length rs ≤ most_records
  pub steps : all_steps rs ≤ largest_steps * length rs

-- of no runs
codes_none : (c n : ℕ) → codes_from c n [] ≡ replicate n 0
unfolding codes_from how_many
codes_none c zero = refl
codes_none c (suc n) = ap (λ l. 0 ∷ l) (codes_none (c + 1) n)

pub totals_none : totals_of [] ≡ no_runs
unfolding totals_of how_many all_steps
totals_none = tally_alike refl refl refl refl refl (codes_none 0 256) refl

pub few_none : Few []
unfolding all_steps
few_none = record { count = omega arith; steps = omega arith }

pub few_more : (rs : List Run) (r : Run) → length rs < most_records → r.steps ≤ largest_steps → Few rs → Few (rs ++ (r ∷ []))
few_more rs r h k f =
    let l = length-append rs (r ∷ []) in
    record { count = omega arith; steps = omega (arith, steps_last rs r) }

module _ (rs : List Run) (n : ℕ) (few : length rs < most_records) (limit : all_steps rs ≤ largest_steps * length rs) where
  module _ (o : Outcome) where
    runs_more : one_more (length rs) ≡ length (rs ++ (record { outcome = o; steps = n } ∷ []))
    runs_more = one_more_lem (length rs) few ∙ sym (length-append rs _)

    steps_more : more_steps (all_steps rs) n ≡ all_steps (rs ++ (record { outcome = o; steps = n } ∷ []))
    unfolding more_steps
    steps_more = rw (le-leb (all_steps rs) 281470681677825 (omega arith)) (sym (steps_last rs _))

  pub totals_more : (o : Outcome) → CodeWithin o
      → with_run (totals_of rs) (record { outcome = o; steps = n }) ≡ totals_of (rs ++ (record { outcome = o; steps = n } ∷ []))
  unfolding with_run counted_as totals_of
  totals_more Ended h =
      let r : Run = record { outcome = Ended; steps = n } in
      tally_alike (runs_more Ended) (counted rs few r is_ended refl) (passed rs few r is_stopped refl) (passed rs few r is_out refl)
      (passed rs few r is_error refl) (codes_kept rs few r 0 256 (λ k. refl)) (steps_more Ended)
  totals_more Stopped h =
      let r : Run = record { outcome = Stopped; steps = n } in
      tally_alike (runs_more Stopped) (passed rs few r is_ended refl) (counted rs few r is_stopped refl) (passed rs few r is_out refl)
      (passed rs few r is_error refl) (codes_kept rs few r 0 256 (λ k. refl)) (steps_more Stopped)
  totals_more Out h =
      let r : Run = record { outcome = Out; steps = n } in
      tally_alike (runs_more Out) (passed rs few r is_ended refl) (passed rs few r is_stopped refl) (counted rs few r is_out refl)
      (passed rs few r is_error refl) (codes_kept rs few r 0 256 (λ k. refl)) (steps_more Out)
  totals_more (Error k) h =
      let r : Run = record { outcome = Error k; steps = n } in
      tally_alike (runs_more (Error k)) (passed rs few r is_ended refl) (passed rs few r is_stopped refl) (passed rs few r is_out refl)
      (counted rs few r is_error refl) (codes_set rs few k n 256 (omega arith)) (steps_more (Error k))
