-- The records that the stack holds, as the definition has them: the topmost first.
use mathlib.Core.Path.{◌≡◌, refl, sym, ap, ap₂, ◌∙◌}
use mathlib.Core.Logic.{⊎_elim}
use mathlib.Core.Bool.{Bool, true, false, not, false≢true}
use mathlib.Core.List.{List, [], ◌∷◌}
use Prim.Native.Nat.{ℕ, zero, suc, ◌≤◌, ◌<◌}
use native.Mathlib.Nat.{le_refl}
use native.Mathlib.Omega.{arith}
use lib.Dec.{eqb}
use borrow.Author.Tests.{eqb-true}
use lib.ListN.{length, get_or, set}
use lib.Seq.{set_out, get_or-set_same, get_or-set_other}
use Rattle.whole.proofs.Numbers.{less}
use Rattle.words.proofs.Choices.{by_test}
use Rattle.variables.specs.bridge.Memory.{name_at}
use Rattle.machine.specs.Machine.{loop, call, again}
use Rattle.machine.specs.bridge.Holding.{position_of, blank_record, counts, repeats, passes, back_of, over_number, call_record, loop_record, record_of, records_in}
use Rattle.machine.specs.declared.positions.Position.{Position}
use Rattle.machine.specs.declared.records.Record.{Record}

-- a slot past the last changes nothing
pub records_past : (rs : List Record) (slot : ℕ) (e : Record) → length rs ≤ slot → set rs slot e ≡ rs
records_past rs slot e h = set_out rs slot e h

-- ---- a record as the definition has it

-- a FOR's, a WHILE's, or a GOSUB's
pub by_kind : {P : Type 0} (e : Record) → (counts e ≡ true → P) → (counts e ≡ false → repeats e ≡ true → P)
    → (counts e ≡ false → repeats e ≡ false → P) → P
by_kind e l r c = by_test (counts e) l (λ f. by_test (repeats e) (r f) (c f))

module _ (text names : List ℕ) (e : Record) where
  pub is_loop : counts e ≡ true → record_of text names e ≡ loop (name_at names e.slot) e.limit e.step (position_of text (back_of e))
  is_loop f = rw f

  pub is_again : repeats e ≡ true → record_of text names e ≡ again (position_of text (back_of e))
  is_again f = let k : e.kind ≡ 3 = eqb-true e.kind 3 f in rw k

  pub is_call_lem : passes e ≡ false → record_of text names e ≡ call (position_of text (back_of e))
  is_call_lem f = by_kind e (λ l. absurd (false≢true (sym f ∙ rw l))) (λ l r. absurd (false≢true (sym f ∙ rw (l, r)))) (λ l r. rw (l, r))

-- a place to come back to is the one that was put there
over_held : (b : Bool) → not (eqb (over_number b) 0) ≡ b
over_held true = refl
over_held false = refl

pub call_back : (q : Position) → back_of (call_record q) ≡ q
call_back q = rw (over_held q.over)

pub loop_back : (slot limit step : ℕ) (q : Position) → back_of (loop_record slot limit step q) ≡ q
loop_back slot limit step q = rw (over_held q.over)

-- and so is the record
pub call_held : (text names : List ℕ) (q : Position) → record_of text names (call_record q) ≡ call (position_of text q)
call_held text names q = ap (λ x. call (position_of text x)) (call_back q)

pub loop_held : (text names : List ℕ) (slot limit step : ℕ) (q : Position)
    → record_of text names (loop_record slot limit step q) ≡ loop (name_at names slot) limit step (position_of text q)
loop_held text names slot limit step q = ap (λ x. loop (name_at names slot) limit step (position_of text x)) (loop_back slot limit step q)

-- ---- those of them that count

module _ (text names : List ℕ) (rs : List Record) where
  pub records_length : (d : ℕ) → length (records_in text names rs d) ≡ d
  unfolding records_in
  records_length zero = refl
  records_length (suc d) = ap suc (records_length d)

  -- there are none
  pub records_none : records_in text names rs 0 ≡ []
  unfolding records_in
  records_none = refl

  -- the topmost, and those below it
  pub records_top : (d : ℕ) → records_in text names rs (suc d) ≡ record_of text names (get_or rs d blank_record) ∷ records_in text names rs d
  unfolding records_in
  records_top d = refl

  -- one written above them changes none
  pub records_above : (d slot : ℕ) (e : Record) → d ≤ slot → records_in text names (set rs slot e) d ≡ records_in text names rs d
  unfolding records_in
  records_above zero slot e h = refl
  records_above (suc d) slot e h =
      ap₂ ◌∷◌ (ap (record_of text names) (get_or-set_other rs slot d e blank_record (omega arith))) (records_above d slot e (omega arith))

  -- one written just above them comes on top
  pub records_push : (d : ℕ) (e : Record) → d < length rs
      → records_in text names (set rs d e) (suc d) ≡ record_of text names e ∷ records_in text names rs d
  unfolding records_in
  records_push d e h =
      ap₂ ◌∷◌ (ap (record_of text names) (get_or-set_same rs d e blank_record h)) (records_above d d e (le_refl d))

-- more names in the table change none of them, where each loop's variable was there
module _ (text names names' : List ℕ) (numbers : ℕ) (kept : (i : ℕ) → i < numbers → name_at names' i ≡ name_at names i) where
  pub record_kept : (e : Record) → (counts e ≡ true → e.slot < numbers) → record_of text names' e ≡ record_of text names e
  record_kept e h =
      by_kind e (λ f. rw f (ap (λ n. loop n e.limit e.step (position_of text (back_of e))) (kept e.slot (h f)))) (λ f g. rw (f, g)) (λ f g. rw (f, g))

  pub records_kept : (rs : List Record) (d : ℕ) → ((i : ℕ) → i < d → counts (get_or rs i blank_record) ≡ true → (get_or rs i blank_record).slot < numbers)
      → records_in text names' rs d ≡ records_in text names rs d
  unfolding records_in
  records_kept rs zero h = refl
  records_kept rs (suc d) h = ap₂ ◌∷◌ (record_kept (get_or rs d blank_record) (h d (omega arith))) (records_kept rs d (λ i l. h i (omega arith)))

-- what holds of each of them
module _ (P : Record → Type 0) (rs : List Record) (d : ℕ) (each : (i : ℕ) → i < d → P (get_or rs i blank_record)) where
  -- still does where one is written above them,
  pub each_above : (slot : ℕ) (e : Record) → d ≤ slot → (i : ℕ) → i < d → P (get_or (set rs slot e) i blank_record)
  each_above slot e h i l = rw (get_or-set_other rs slot i e blank_record (omega arith)) (each i l)

  -- and of it too where it comes on top
  pub each_push : (e : Record) → P e → d < length rs → (i : ℕ) → i < suc d → P (get_or (set rs d e) i blank_record)
  each_push e x h i l =
      ⊎_elim (each_above d e (le_refl d) i)
      (λ k. let q : i ≡ d = omega arith in rw (q, get_or-set_same rs d e blank_record h) x)
      (less i d)
