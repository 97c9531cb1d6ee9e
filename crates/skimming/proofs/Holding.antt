-- What the loop holds: the marks are those of what is open, and what is left of the whole is the answer. Over plain values.
use Rattle.std.specs.Prelude.{None, Option, Some}
use mathlib.Core.Path.{◌≡◌, refl, sym, ap, ◌∙◌}
use mathlib.Core.List.{List, [], ◌∷◌}
use Prim.Native.Nat.{ℕ, zero, suc, ◌+◌, ◌-◌, ◌≤◌, ◌<◌}
use native.Mathlib.Omega.{arith}
use native.Mathlib.Numerals.{add-one}
use borrow.Author.Tests.{ne_eqb}
use lib.Dec.{eqb}
use lib.ListN.{length, get_or, set, replicate, get_or-replicate}
use lib.Seq.{get_or-set_same, get_or-set_other}
use Rattle.words.specs.declared.symbols.Scanned.{Scanned}
use Rattle.words.proofs.Choices.{by_test}
use Rattle.grammar.specs.Formulas.{enough}
use Rattle.skimming.specs.bridge.Flat.{Opened, want_at}
use Rattle.skimming.specs.bridge.Marks.{mark_of, First, first_depth, top_of}
use Rattle.skimming.specs.bridge.Remaining.{weight}
use Rattle.skimming.specs.bridge.Steps.{step_of}
use Rattle.skimming.specs.declared.stepping.Phase.{Phase}
use Rattle.skimming.specs.declared.stepping.Phase.TheVariants as phase
use Rattle.skimming.specs.declared.stepping.Step.{Step}
use Rattle.skimming.specs.declared.stepping.Step.TheVariants.{Refused, Ends, Wants, Has, Opens, Renews, Closes}
use Rattle.skimming.proofs.Chains.{chained, chained_twice, operand_in}
use Rattle.skimming.proofs.Outside.{outside, outside_bad, ended, wants}
use Rattle.skimming.proofs.Agreement.{want_is}
use Rattle.skimming.proofs.Lightness.{Carries, wants_light}
use Rattle.skimming.proofs.Moves.{Top, Goes, lead, step_goes}

-- ---- the marks

unfoldable pub Marked : List ℕ → List Opened → Type 0
Marked marks [] = Unit {0}
Marked marks (o ∷ os) = (get_or marks (length os) 0 ≡ mark_of o) × (mark_of o ≡ 0 → ⊥) × Marked marks os

-- the mark of what was opened last
marked_top : (marks : List ℕ) (os : List Opened) (depth : ℕ) → depth ≡ length os → Marked marks os → Top os (top_of marks depth)
unfolding Marked
marked_top marks [] depth e h = rw e
marked_top marks (o ∷ os) depth e h =
    let d : depth - 1 ≡ length os = omega arith in
    let m : top_of marks depth ≡ mark_of o = rw (ne_eqb depth 0 (λ z. omega arith), d) h.0 in
    (m, λ z. h.1 (sym m ∙ z))

-- what stands above is no mark yet
marked_above : (marks : List ℕ) (os : List Opened) (i m : ℕ) → length os ≤ i → Marked marks os → Marked (set marks i m) os
unfolding Marked
marked_above marks [] i m l h = tt
marked_above marks (o ∷ os) i m l h =
    (get_or-set_other marks i (length os) m 0 (λ e. omega arith) ∙ h.0, h.1, marked_above marks os i m (omega arith) h.2)

-- one more
marked_more : (marks : List ℕ) (os : List Opened) (o : Opened) (i m : ℕ) → i ≡ length os → i < length marks → m ≡ mark_of o → (m ≡ 0 → ⊥)
    → Marked marks os → Marked (set marks i m) (o ∷ os)
unfolding Marked
marked_more marks os o i m e l k z h =
    (ap (λ j. get_or (set marks i m) j 0) (sym e) ∙ get_or-set_same marks i m 0 l ∙ k, λ y. z (k ∙ y), marked_above marks os i m (omega arith) h)

pub first_small : (m : ℕ) → first_depth m ≤ 255
first_small m = by_test (eqb m 0) (λ e. rw e (omega arith)) (λ e. rw e (omega arith))

-- where something is marked, something is open
pub top_open : (marks : List ℕ) (depth : ℕ) → (top_of marks depth ≡ 0 → ⊥) → 0 < depth
top_open marks zero h = absurd (h refl)
top_open marks (suc d) h = omega arith

module _ (s : List ℕ) where
  pub record Held (p : Phase) (marks : List ℕ) (depth : ℕ) (t : Scanned) (x : Option Scanned) : Type 0 where
    pub os : List Opened
    pub deep : depth ≡ length os
    pub marked : Marked marks os
    pub leads : x ≡ lead s os p t

  -- what follows what was skimmed apart
  pub apart_light : (u : Scanned) (m : ℕ) {r : Option Scanned} → Carries s m
      → ((os : List Opened) → First m os → r ≡ want_at (enough s) s os 0 u.token u.next)
      → (v : Scanned) → r ≡ Some v → weight s v + 4 ≤ weight s u
  apart_light u m {r} k skims v b =
      let w : wants s (k.o ∷ []) 0 u ≡ Some v = sym (skims (k.o ∷ []) (k.marked, k.some) ∙ want_is s (k.o ∷ []) 0 u) ∙ b in
      rw w at (wants_light s (k.o ∷ []) 0 u)

  -- the step that was told
  pub step_told : (p : Phase) (marks : List ℕ) (depth : ℕ) (t : Scanned) {m : ℕ} {r step : Step} → m ≡ top_of marks depth → r ≡ step_of s p m t
      → r ≡ step → step_of s p (top_of marks depth) t ≡ step
  step_told p marks depth t e f g = ap (λ n. step_of s p n t) (sym e) ∙ sym f ∙ g

  pub held_first : (m : ℕ) (t : Scanned) (os : List Opened) → First m os
      → Held (phase.Wants 0) (replicate 255 m) (first_depth m) t (want_at (enough s) s os 0 t.token t.next)
  unfolding Marked
  held_first m t [] h = record { os = []; deep = rw h; marked = tt; leads = want_is s [] 0 t }
  held_first m t (o ∷ []) h =
      record {
        os = o ∷ [];
        deep = rw (ne_eqb m 0 h.1);
        marked = (get_or-replicate 255 0 m 0 (omega arith) ∙ h.0, λ y. h.1 (h.0 ∙ y), tt);
        leads = want_is s (o ∷ []) 0 t;
      }
  held_first m t (o ∷ p ∷ os) h = absurd h

  module _ {p : Phase} {marks : List ℕ} {depth : ℕ} {t : Scanned} {x : Option Scanned} (held : Held p marks depth t x) where
    goes : (step : Step) → step_of s p (top_of marks depth) t ≡ step → Goes s held.os (lead s held.os p t) t step
    goes step e = rw e at (step_goes s held.os p (top_of marks depth) t (marked_top marks held.os depth held.deep held.marked))

    pub held_refused : step_of s p (top_of marks depth) t ≡ Refused → x ≡ None
    held_refused e = held.leads ∙ goes Refused e

    pub held_ends : step_of s p (top_of marks depth) t ≡ Ends → x ≡ Some t
    held_ends e = held.leads ∙ goes Ends e

    pub held_wants : (u : Scanned) (level : ℕ) → step_of s p (top_of marks depth) t ≡ Wants u level → Held (phase.Wants level) marks depth u x
    held_wants u level e =
        record { os = held.os; deep = held.deep; marked = held.marked; leads = held.leads ∙ goes (Wants u level) e }

    pub held_has : (u : Scanned) → step_of s p (top_of marks depth) t ≡ Has u → Held phase.Has marks depth u x
    held_has u e = record { os = held.os; deep = held.deep; marked = held.marked; leads = held.leads ∙ goes (Has u) e }

    pub held_closes : (u : Scanned) → step_of s p (top_of marks depth) t ≡ Closes u → Held phase.Has marks (depth - 1) u x
    unfolding Marked
    held_closes u e =
        let g = goes (Closes u) e in
        let d : depth ≡ suc (length g.rest) = held.deep ∙ ap length g.was in
        let m = rw g.was at held.marked in
        record { os = g.rest; deep = omega arith; marked = m.2; leads = held.leads ∙ g.leads }

    pub held_renews : (u : Scanned) (m : ℕ) → step_of s p (top_of marks depth) t ≡ Renews u m → depth ≤ length marks
        → Held (phase.Wants 0) (set marks (depth - 1) m) depth u x
    unfolding Marked
    held_renews u m e l =
        let g = goes (Renews u m) e in
        let d : depth ≡ suc (length g.rest) = held.deep ∙ ap length g.was in
        let k = rw g.was at held.marked in
        record {
          os = g.o ∷ g.rest;
          deep = d;
          marked = marked_more marks g.rest g.o (depth - 1) m (omega arith) (omega arith) g.marked g.some k.2;
          leads = held.leads ∙ g.leads;
        }

    pub held_opens : (u : Scanned) (m : ℕ) → step_of s p (top_of marks depth) t ≡ Opens u m → depth < length marks
        → Held (phase.Wants 0) (set marks depth m) (depth + 1) u x
    held_opens u m e l =
        let g = goes (Opens u m) e in
        record {
          os = g.o ∷ held.os;
          deep = add-one depth ∙ ap suc held.deep;
          marked = marked_more marks held.os g.o depth m held.deep l g.marked g.some held.marked;
          leads = held.leads ∙ g.leads;
        }

    -- no room: what was opened is skimmed apart, with all that follows it in the parentheses outside
    module _ (u : Scanned) (m : ℕ) (e : step_of s p (top_of marks depth) t ≡ Opens u m) {r : Option Scanned}
        (skims : (os : List Opened) → First m os → r ≡ want_at (enough s) s os 0 u.token u.next) where
      apart : x ≡ outside s held.os r
      unfolding outside
      apart =
          let g = goes (Opens u m) e in
          held.leads ∙ g.leads ∙ ap (outside s held.os) (sym (skims (g.o ∷ []) (g.marked, g.some) ∙ want_is s (g.o ∷ []) 0 u))

      pub held_inner_bad : r ≡ None → x ≡ None
      held_inner_bad b = apart ∙ ap (outside s held.os) b ∙ outside_bad s held.os

      pub held_inner : (v : Scanned) → r ≡ Some v → Held phase.Has marks depth v x
      unfolding outside
      held_inner v b =
          let g = goes (Opens u m) e in
          let w : r ≡ chained s (ended s g.o (operand_in s 0 u)) = skims (g.o ∷ []) (g.marked, g.some) ∙ want_is s (g.o ∷ []) 0 u in
          let twice : chained s (Some v) ≡ Some v =
          ap (chained s) (sym b ∙ w) ∙ chained_twice s (ended s g.o (operand_in s 0 u)) ∙ sym w ∙ b in
          record {
            os = held.os;
            deep = held.deep;
            marked = held.marked;
            leads = apart ∙ ap (outside s held.os) (b ∙ sym twice);
          }
