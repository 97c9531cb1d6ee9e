-- The next record, counted as the code counts it and read as the definition reads it; and that a text holds enough of its line.
use mathlib.Core.Path.{◌≡◌, refl, sym, ap, ◌∙◌}
use mathlib.Core.Logic.{⊎_elim}
use mathlib.Core.List.{List, [], ◌∷◌, ◌++◌, append_assoc}
use Prim.Native.Nat.{ℕ, ◌+◌, ◌≤◌, ◌<◌}
use native.Mathlib.Omega.{arith}
use borrow.Author.Tests.{le-leb, lt-leb, le-ltb}
use lib.ListN.{length, take, length-append}
use lib.Seq.{take_all, take-append-le, take-append_seam, length-take-le}
use Rattle.whole.specs.Texts.{held, with_byte}
use Rattle.whole.proofs.Numbers.{less}
use Rattle.whole.proofs.Numerals.{held_put}
use Rattle.records.specs.Records.{record_of}
use Rattle.records.specs.declared.reading.Run.{Run}
use Rattle.std.specs.Prelude.{Option, Some, None, IfSome}
use Rattle.records.proofs.Sound.{Within, record_within}
use Rattle.records.proofs.Long.{long_bad}
use Rattle.tallies.specs.Totals.{most_records, totals_of}
use Rattle.tallies.specs.bridge.Counting.{refused as refused_standing, good, with_next, with_record}
use Rattle.tallies.specs.declared.counting.Count.{Count}
use Rattle.tallies.proofs.Totals.{Few, few_more, totals_more}
use Rattle.sheet.specs.Sheet.{Reading, runs, refused, and_run, read_from}
use Rattle.sheet.specs.bridge.Taking.{contents, kept}

-- ---- what was read before

abbrev pub after : List Run → Reading → Reading
after rs (runs qs) = runs (rs ++ qs)
after rs (refused n) = refused n

after_run : (rs : List Run) (run : Run) (r : Reading) → after rs (and_run run r) ≡ after (rs ++ (run ∷ [])) r
after_run rs run (runs qs) = ap runs (sym (append_assoc rs (run ∷ []) qs))
after_run rs run (refused n) = refl

pub after_none : (r : Reading) → after [] r ≡ r
after_none (runs qs) = refl
after_none (refused n) = refl

-- ---- the next record

-- behind the runs rs, a line x that is counted to c: it is refused, whatever follows, or is one run more
pub data Next (rs : List Run) (x : List ℕ) (c : Count) : Type 0 where
  stops : (n : ℕ) → c.standing ≡ refused_standing n → ((ls : List (List ℕ)) → after rs (read_from (length rs) (x ∷ ls)) ≡ refused n) → Next rs x c
  goes : (run : Run) → c ≡ good (totals_of (rs ++ (run ∷ []))) → Few (rs ++ (run ∷ []))
      → ((ls : List (List ℕ)) → after rs (read_from (length rs) (x ∷ ls)) ≡ after (rs ++ (run ∷ [])) (read_from (length (rs ++ (run ∷ []))) ls))
      → Next rs x c

module _ (rs : List Run) (x : List ℕ) (f : Few rs) where
  -- the first too many
  next_over : most_records ≤ length rs → Next rs x (with_next (totals_of rs) (record_of x))
  unfolding with_next totals_of read_from
  next_over h =
      let e : length rs ≡ most_records = omega (arith, f.count) in
      stops (most_records + 1) (rw (le-leb most_records (length rs) h)) (λ ls. rw (le-leb most_records (length rs) h, e))

  module _ (h : length rs < most_records) where
    next_bad : record_of x ≡ None → Next rs x (with_next (totals_of rs) (record_of x))
    unfolding with_next totals_of read_from
    next_bad e =
        stops (length rs + 1) (rw (lt-leb most_records (length rs) h, e)) (λ ls. rw (lt-leb most_records (length rs) h, e))

    runs_few : (totals_of rs).runs < most_records
    unfolding totals_of
    runs_few = h

    next_good : (run : Run) → record_of x ≡ Some run → Within run → Next rs x (with_next (totals_of rs) (record_of x))
    unfolding with_next read_from
    next_good run e w =
        let l : length rs + 1 ≡ length (rs ++ (run ∷ [])) = sym (length-append rs (run ∷ [])) in
        goes run
        (rw (lt-leb most_records (totals_of rs).runs runs_few, e) (ap good (totals_more rs run.steps h f.steps run.outcome w.1)))
        (few_more rs run h w.0 f)
        (λ ls. rw (lt-leb most_records (length rs) h, e) (after_run rs run (read_from (length rs + 1) ls) ∙ ap (λ n. after (rs ++ (run ∷ [])) (read_from n ls)) l))

    next_under : (r : Option Run) → record_of x ≡ r → IfSome r Within → Next rs x (with_next (totals_of rs) (record_of x))
    next_under (Some run) e w = next_good run e w
    next_under None e w = next_bad e

  pub next : Next rs x (with_record (good (totals_of rs)) (record_of x))
  next = ⊎_elim (λ h. next_under h (record_of x) refl (record_within x)) next_over (less (length rs) most_records)

-- behind a record that is refused none counts
pub refused_stays : (c : Count) (n : ℕ) → c.standing ≡ refused_standing n → (r : Option Run) → with_record c r ≡ c
refused_stays c n e r = rw e

-- ---- a text holds enough of a line

contents-held : (l : List ℕ) → contents (held l) ≡ l
unfolding held
contents-held l = take-append_seam l _

kept_long : (s : List ℕ) → length s ≤ length (kept s) + 1
unfolding kept
kept_long [] = omega arith
kept_long (b ∷ []) = omega arith
kept_long (b ∷ c ∷ s) = omega (arith, kept_long (c ∷ s))

module _ (l : List ℕ) where
  pub kept-held : record_of (kept (contents (held (take 255 l)))) ≡ record_of (kept l)
  kept-held =
      ap (λ s. record_of (kept s)) (contents-held (take 255 l))
      ∙ ⊎_elim
      (λ h. long_bad (kept (take 255 l)) (omega (arith, kept_long (take 255 l), length-take-le 255 l (omega arith)))
      ∙ sym (long_bad (kept l) (omega (arith, kept_long l))))
      (λ h. ap (λ s. record_of (kept s)) (take_all 255 l h)) (less 255 (length l))

  pub last_held : record_of (contents (held (take 255 l))) ≡ record_of l
  last_held =
      ap record_of (contents-held (take 255 l))
      ∙ ⊎_elim
      (λ h. long_bad (take 255 l) (omega (arith, length-take-le 255 l (omega arith))) ∙ sym (long_bad l (omega arith)))
      (λ h. ap record_of (take_all 255 l h)) (less 255 (length l))

  full_stays : (b : ℕ) → 255 ≤ length l → with_byte (held (take 255 l)) b ≡ held (take 255 l)
  unfolding held with_byte
  full_stays b h = let e = length-take-le 255 l h in rw (le-ltb (length (take 255 l)) 255 (omega arith))

  pub byte_held : (b : ℕ) → with_byte (held (take 255 l)) b ≡ held (take 255 (l ++ (b ∷ [])))
  byte_held b =
      ⊎_elim
      (λ h. ap (λ s. with_byte (held s) b) (take_all 255 l (omega arith)) ∙ held_put l b h
      ∙ ap held (sym (take_all 255 (l ++ (b ∷ [])) (omega (arith, length-append l (b ∷ []))))))
      (λ h. full_stays b h ∙ ap held (sym (take-append-le 255 l (b ∷ []) h))) (less (length l) 255)
