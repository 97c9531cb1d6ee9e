-- The search down the records, by the code's slots and as the definition makes it.
use Rattle.std.specs.Prelude.{None, Option, Some, ℕ}
use mathlib.Core.Path.{◌≡◌, refl, sym, ap, ◌∙◌}
use mathlib.Core.Bool.{Bool, true, false, cond, not, ◌&&◌, false≢true}
use mathlib.Core.List.{List}
use Prim.Native.Nat.{ℕ, zero, suc, ◌≤◌, ◌<◌}
use native.Mathlib.Omega.{arith}
use borrow.Author.Tests.{eqb-true, eqb-false, ltb-false}
use lib.Dec.{eqb, ltb}
use lib.ListN.{get_or}
use Rattle.whole.proofs.Never.{never}
use Rattle.words.proofs.Choices.{by_test, both}
use Rattle.words.specs.Names.{Telling, alike}
use Rattle.variables.specs.Tables.{names_from, slot_in}
use Rattle.variables.specs.Variables.{most_variables}
use Rattle.variables.specs.bridge.Memory.{name_at, Apart}
use Rattle.variables.proofs.Names.{name_slot, slot_name}
use Rattle.machine.specs.Machine as spec
use Rattle.machine.specs.Machine.{missing, is_call}
use Rattle.machine.specs.Order.{Stand, some, wend_for}
use Rattle.machine.specs.Repeats.{is_at, is_while, wend_of, is_partner}
use Rattle.machine.specs.bridge.Holding.{lines_at, body_of, position_of, blank_record, counts, repeats, passes, back_of, record_of, records_in, Parted, Placed}
use Rattle.machine.specs.bridge.Wanted.{is_sought, found_in, entry_at, FoundAt, Told}
use Rattle.machine.specs.bridge.Seeking.{Wish, nothing, call, loop, loop_of, while_at, while_of, test_of, by_slot, sought_for}
use Rattle.machine.specs.declared.records.Record.{Record}
use Rattle.machine.specs.declared.records.Sought.{Sought}
use Rattle.machine.specs.declared.records.Sought.TheVariants as asked
use Rattle.machine.proofs.Stacking.{by_kind, record_kept, records_kept}
use Rattle.machine.proofs.Standing.{begins_at, part_place}

-- ---- the code's search

-- who asks for nothing finds nothing
pub nothing_found : (rs : List Record) (d : ℕ) → None ≡ found_in asked.Nothing rs d
unfolding found_in
nothing_found rs zero = refl
nothing_found rs (suc d) = by_test (passes (get_or rs d blank_record)) (λ f. rw f (nothing_found rs d)) (λ f. rw f)

not_found : {P : Type 0} {i : ℕ} → None ≡ Some i → P
not_found e = never (cc)

-- a record that is no FOR's is no loop's
no_loop : (numbers : ℕ) (x : Option ℕ) (e : Record) → counts e ≡ false → false ≡ is_sought (by_slot numbers x) e
no_loop numbers None e f = refl
no_loop numbers (Some i) e f = by_test (ltb i numbers) (λ t. rw (t, f)) (λ t. rw t)

-- ---- as the definition makes it

-- the end of its search is the code's
same_end : (text names : List ℕ) (e : Record) → is_call (record_of text names e) ≡ not (passes e)
same_end text names e = by_kind e (λ f. rw f) (λ f g. rw (f, g)) (λ f g. rw (f, g))

-- a WHILE's record is one of a statement that stands where its own numbers say,
module _ {text : List ℕ} {numbers : ℕ} {e : Record} (h : Placed text numbers e) (r : repeats e ≡ true) (line at : ℕ) where
  own_by : (p : Parted (body_of (lines_at text e.line)) e.at) → e.over ≡ 0
      → is_at line at (position_of text (back_of e)) ≡ (eqb e.line line && eqb e.at at)
  own_by p o = rw (o, p.is, begins_at h.back.begins, part_place (body_of (lines_at text e.line)) true e.at p.of p.is)

  own_place : is_at line at (position_of text (back_of e)) ≡ (eqb e.line line && eqb e.at at)
  own_place = let o = (h.paired r).ongoing in own_by (h.back.reads (rw o)) o

  -- and so does its WEND
  wend_place : is_partner line at (wend_of (position_of text (back_of e))) ≡ (eqb e.ending line && eqb e.close at)
  wend_place = let p = h.paired r in ap (is_partner line at) p.is ∙ rw (p.line, p.at)

-- so a WHILE that has a record has its WEND
pub record HasWend (text : List ℕ) (line at : ℕ) : Type 0 where
  pub wend : Stand
  pub is : wend_for at (lines_at text line) ≡ some wend

module _ {text : List ℕ} {numbers : ℕ} {e : Record} (h : Placed text numbers e) (r : repeats e ≡ true) where
  wend_by : (p : Parted (body_of (lines_at text e.line)) e.at) → e.over ≡ 0
      → wend_of (position_of text (back_of e)) ≡ wend_for e.at (lines_at text e.line)
  wend_by p o = rw (o, p.is, part_place (body_of (lines_at text e.line)) true e.at p.of p.is)

  own_wend : HasWend text e.line e.at
  own_wend = let p = h.paired r in record { wend = p.wend; is = sym (wend_by (h.back.reads (rw p.ongoing)) p.ongoing) ∙ p.is }

pub while_found : (text names : List ℕ) {numbers : ℕ} {e : Record} → Placed text numbers e → (line at : ℕ)
    → is_while line at (record_of text names e) ≡ true → HasWend text line at
while_found text names {e = e} h line at t =
    by_kind e (λ f. absurd (false≢true (rw f at t)))
    (λ f g. let b = both (eqb e.line line) (eqb e.at at) (sym (own_place h g line at) ∙ (rw (f, g) at t)) in
    let l = eqb-true e.line line b.0 in let a = eqb-true e.at at b.1 in rw (l, a) at (own_wend h g))
    (λ f g. absurd (false≢true (rw (f, g) at t)))

-- none other is a WHILE's
no_while : (e : Record) → counts e ≡ true → repeats e ≡ false
no_while e f = let k : e.kind ≡ 2 = eqb-true e.kind 2 f in rw k

not_at : {P : Type 0} {i : ℕ} → None ≡ Some i → P
not_at e = never (cc)

-- no two names of the table are one variable's
module _ (text names : List ℕ) (numbers : ℕ) (few : numbers ≤ most_variables) (apart : Apart (names_from numbers names)) where
  -- a loop's record is that of a variable just where its entry is the variable's
  module _ (name : Telling) (e : Record) (known : e.slot < numbers) where
    abbrev Own : Type 0
    Own = alike (name_at names e.slot) name ≡ true → slot_in names name ≡ Some e.slot

    has_own : Own
    has_own t = name_slot names numbers few apart e.slot name known t

    other : (x : Option ℕ) → slot_in names name ≡ x → (x ≡ Some e.slot → ⊥) → alike (name_at names e.slot) name ≡ false
    other x q n = by_test (alike (name_at names e.slot) name) (λ t. absurd (n (sym q ∙ has_own t))) (λ t. t)

    slot_is : (i : ℕ) → slot_in names name ≡ Some i → alike (name_at names e.slot) name ≡ eqb e.slot i
    slot_is i q =
        by_test (eqb e.slot i)
        (λ t. let s = eqb-true e.slot i t in rw (t, s) (slot_name names i name (omega arith) q))
        (λ t. rw t (other (Some i) q (λ z. let s : i ≡ e.slot = cc in eqb-false e.slot i t (sym s))))

    same_loop : (x : Option ℕ) → slot_in names name ≡ x → counts e ≡ true → alike (name_at names e.slot) name ≡ is_sought (by_slot numbers x) e
    same_loop None q f = other None q (λ z. not_at z)
    same_loop (Some i) q f =
        by_test (ltb i numbers) (λ t. rw (t, f) (slot_is i q))
        (λ t. rw t (other (Some i) q (λ z. let s : i ≡ e.slot = cc in absurd (omega (arith, ltb-false i numbers t)))))

  -- its test on a record is the code's
  same_test : (w : Wish) (e : Record) → Placed text numbers e → test_of w (record_of text names e) ≡ is_sought (sought_for names numbers w) e
  same_test nothing e h = refl
  same_test call e h = same_end text names e
  same_test loop e h = by_kind e (λ f. rw f) (λ f g. rw (f, g)) (λ f g. rw (f, g))
  same_test (loop_of name) e h =
      by_kind e
      (λ f. rw f (same_loop name e (h.known f) (slot_in names name) refl f))
      (λ f g. rw (f, g) (no_loop numbers (slot_in names name) e f))
      (λ f g. rw (f, g) (no_loop numbers (slot_in names name) e f))
  same_test (while_at line at) e h =
      by_kind e (λ f. rw (f, no_while e f)) (λ f g. rw (f, g) (own_place h g line at)) (λ f g. rw (f, g))
  same_test (while_of line at) e h =
      by_kind e (λ f. rw (f, no_while e f)) (λ f g. rw (f, g) (wend_place h g line at)) (λ f g. rw (f, g))

  module _ (w : Wish) (rs : List Record) where
    abbrev k : Sought
    k = sought_for names numbers w

    abbrev Known : ℕ → Type 0
    Known d = (i : ℕ) → i < d → Placed text numbers (get_or rs i blank_record)

    step : (d : ℕ) → Known (suc d) → let x = get_or rs d blank_record in
        spec.sought (test_of w) (records_in text names rs (suc d))
        ≡ cond (is_sought k x) (spec.found (record_of text names x) (records_in text names rs d))
        (cond (not (passes x)) missing (spec.sought (test_of w) (records_in text names rs d)))
    unfolding records_in spec.sought
    step d h = let x = get_or rs d blank_record in rw (same_test w x (h d (omega arith)), same_end text names x)

    found_at : (d i : ℕ) → Known d → found_in k rs d ≡ Some i → FoundAt text names (test_of w) d i (get_or rs i blank_record) rs
    unfolding found_in
    found_at zero i h e = not_found e
    found_at (suc d) i h e =
        let x = get_or rs d blank_record in
        by_test (is_sought k x)
        (λ t. let f : Some d ≡ Some i = rw t at e in let g : d ≡ i = cc in
        rw (← g) (record { below = omega arith; at = refl; passes = same_test w x (h d (omega arith)) ∙ t; is = step d h ∙ rw t }))
        (λ t. by_test (passes x)
        (λ l. let r = found_at d i (λ j m. h j (omega arith)) (rw (t, l) at e) in
        record { below = omega (arith, r.below); at = refl; passes = r.passes; is = step d h ∙ rw (t, l) r.is })
        (λ l. not_found (rw (t, l) at e)))

    found_none : (d : ℕ) → Known d → found_in k rs d ≡ None → spec.sought (test_of w) (records_in text names rs d) ≡ missing
    unfolding found_in records_in spec.sought
    found_none zero h e = refl
    found_none (suc d) h e =
        let x = get_or rs d blank_record in
        by_test (is_sought k x) (λ t. not_found (sym (rw t at e)))
        (λ t. step d h ∙ by_test (passes x) (λ l. rw (t, l) (found_none d (λ j m. h j (omega arith)) (rw (t, l) at e))) (λ l. rw (t, l)))

    told_by : (d : ℕ) → Known d → (f : Option ℕ) → found_in k rs d ≡ f → Told text names (test_of w) d f (entry_at f rs) rs
    told_by d h (Some i) e = found_at d i h e
    told_by d h None e = found_none d h e

    -- what the code finds is what the definition finds
    pub told : (d : ℕ) → Known d → Told text names (test_of w) d (found_in k rs d) (entry_at (found_in k rs d) rs) rs
    told d h = told_by d h (found_in k rs d) refl

-- what was told of the records stands when more names are in the table
module _ (text names names' : List ℕ) (numbers : ℕ) (kept : (i : ℕ) → i < numbers → name_at names' i ≡ name_at names i) (rs : List Record)
    (test : spec.Record → Bool) (d : ℕ) (known : (i : ℕ) → i < d → counts (get_or rs i blank_record) ≡ true → (get_or rs i blank_record).slot < numbers) where
  pub told_kept : (f : Option ℕ) (entry : Record) → Told text names test d f entry rs → Told text names' test d f entry rs
  told_kept None entry t = rw (records_kept text names names' numbers kept rs d known) t
  told_kept (Some i) entry t =
      let e = t.at in
      let one : record_of text names' entry ≡ record_of text names entry = rw e (record_kept text names names' numbers kept (get_or rs i blank_record) (known i t.below)) in
      record {
        below = t.below;
        at = e;
        passes = rw one t.passes;
        is = rw (records_kept text names names' numbers kept rs d known, one, records_kept text names names' numbers kept rs i (λ j l. known j (omega (arith, t.below)))) t.is;
      }
