-- A run is refused exactly for its string space, its records or its text: one that was begun never is.
use Rattle.loader.specs.Refusals.{refused_at}
use mathlib.Core.Path.{◌≡◌, refl, ap}
use mathlib.Core.Bool.{false}
use mathlib.Core.List.{List}
use mathlib.Core.Logic.{◌↔◌}
use Prim.Native.Nat.{ℕ, zero, suc, ◌≤◌, ◌<◌}
use borrow.Author.Tests.{lt-ltb, le-ltb}
use Rattle.words.specs.declared.places.LineNumber.{LineNumber}
use Rattle.words.specs.Places.{place}
use Rattle.words.specs.declared.places.Place.{Place}
use Rattle.loader.specs.Lines.{Line, lines_of, next_line}
use Rattle.loader.specs.Loading.{load_of}
use Rattle.loader.specs.Refusals.{refusal_number}
use Rattle.loader.specs.declared.refusals.Refusal.{Refusal}
use Rattle.loader.specs.declared.refusals.Refusal.TheVariants.{SpaceTooLong, StackTooLong}
use Rattle.machine.specs.Items.{fresh}
use Rattle.machine.specs.Machine.{Machine, Lent, most_records, with_step}
use Rattle.statements.specs.Parts.{place_of}
use Rattle.statements.specs.Parts.{Rest, nothing, part, head_of, tail_of}
use Rattle.turns.specs.Steps.{Next, goes_on, enters, ends, stops, fails, do_statement}
use Rattle.runner.specs.Run.{ends_with, line_number_of, Entered, over, faulty, opened, enter, Standing, finished, at, by_entered, entering, onward, following, turn, running, is_refused, run_of}
use Rattle.runner.specs.declared.running.Outcome.{Outcome}
use Rattle.runner.specs.declared.running.Outcome.TheVariants.{Refused}
use Rattle.promises.specs.Demands as demands
use Rattle.promises.specs.Demands.{WasRefused}
use Rattle.promises.proofs.Numbers.{refused_told}
use Rattle.whole.proofs.Never.{never}
use Rattle.promises.proofs.Limits.Bounds.{RunView, long, tall, unloaded, runs, run_view}
use Rattle.variables.specs.Strings.{longest_space}

-- ---- a run that was begun

abbrev pub Begun : Standing → Type 0
Begun (finished r) = is_refused r.ending ≡ false
Begun (at m lines p) = Unit {0}

entered_begun : (e : Entered) (m : Machine) (lines : List Line) → Begun (by_entered e m lines)
entered_begun over m lines = refl
entered_begun (faulty e) m lines = refl
entered_begun (opened p) m lines = tt

pub entering_begun : (m : Machine) (lines : List Line) → Begun (entering m lines)
entering_begun m lines = entered_begun (enter lines) m lines

onward_begun : (m : Machine) (lines : List Line) (rest : Rest) → Begun (onward m lines rest)
onward_begun m lines nothing = entering_begun m (next_line lines)
onward_begun m lines (part p) = tt

following_begun : (l : LineNumber) (n : Next) → Begun (following l n)
following_begun l (goes_on m p) = onward_begun m p.lines p.rest
following_begun l (enters m lines) = entering_begun m lines
following_begun l (ends m) = refl
following_begun l (stops m) = refl
following_begun l (fails e m) = refl

pub running_begun : (n : ℕ) (program : List ℕ) (s : Standing) → Begun s → is_refused (running n program s).ending ≡ false
unfolding running
running_begun zero program (finished r) h = h
running_begun zero program (at m lines p) h = refl
running_begun (suc n) program (finished r) h = h
running_begun (suc n) program (at m lines p) h =
    running_begun n program (turn program m lines p)
    (following_begun (line_number_of lines) (do_statement program (place_of p) (head_of p) (with_step m) (record { lines = lines; rest = tail_of p })))

-- ---- a whole run

-- what a run is refused for, by its case
pub data RefusedFor (text : List ℕ) (lent : Lent) : Refusal → Place → Type 0 where
  long_space : longest_space < lent.space → RefusedFor text lent SpaceTooLong (place 0)
  long_stack : lent.space ≤ longest_space → most_records < lent.records → RefusedFor text lent StackTooLong (place 0)
  not_loaded : {r : Refusal} {p : Place} → lent.space ≤ longest_space → lent.records ≤ most_records → load_of text ≡ refused_at r p → RefusedFor text lent r p

-- by its case, and by its number and place
refused_for : {text : List ℕ} {lent : Lent} {r : Refusal} {p : Place} → RefusedFor text lent r p → demands.RefusedFor text lent (refusal_number r) p.0
refused_for (long_space h) = demands.long_space h
refused_for (long_stack h k) = demands.long_stack h k
refused_for {r = r} (not_loaded h k l) = demands.not_loaded h k (record { refusal = r; numbered = refl; loads = l })

refused_by : {text : List ℕ} {lent : Lent} {number at : ℕ} → demands.RefusedFor text lent number at
    → (r : Refusal) × (refusal_number r ≡ number) × RefusedFor text lent r (place at)
refused_by (demands.long_space h) = (SpaceTooLong, refl, long_space h)
refused_by (demands.long_stack h k) = (StackTooLong, refl, long_stack h k)
refused_by (demands.not_loaded h k l) = (l.refusal, l.numbered, not_loaded h k l.loads)

module _ (text input : List ℕ) (lent : Lent) (budget : ℕ) where
  not_begun : {o : Outcome} (r : Refusal) (p : Place) → is_refused o ≡ false → o ≡ Refused r p → ⊥
  not_begun r p h e = let f = rw e at h in never (cc)

  same_refusal : {r s : Refusal} {p q : Place} → Refused s q ≡ Refused r p → RefusedFor text lent s q → RefusedFor text lent r p
  same_refusal {r} {s} {p} {q} e h = let f : r ≡ s = cc in let g : p ≡ q = cc in rw (f, g) h

  refused_view : RunView text input lent budget → (r : Refusal) (p : Place) → (run_of text input lent budget).ending ≡ Refused r p
      → RefusedFor text lent r p
  refused_view (long h e) r p o = same_refusal (rw e at o) (long_space h)
  refused_view (tall h k e) r p o = same_refusal (rw e at o) (long_stack h k)
  refused_view (unloaded s q h k l e) r p o = same_refusal (rw e at o) (not_loaded h k l)
  refused_view (runs h k l e) r p o =
      absurd
      (not_begun r p
      (running_begun budget text (entering (fresh text input lent) (lines_of text)) (entering_begun (fresh text input lent) (lines_of text)))
      (rw e at o))

  for_view : (r : Refusal) (p : Place) → RefusedFor text lent r p
      → run_of text input lent budget ≡ ends_with (Refused r p) (fresh text input lent)
  unfolding run_of
  for_view r p (long_space h) = rw (lt-ltb longest_space lent.space h)
  for_view r p (long_stack h k) = rw (le-ltb longest_space lent.space h, lt-ltb most_records lent.records k)
  for_view r p (not_loaded h k l) = rw (le-ltb longest_space lent.space h, le-ltb most_records lent.records k, l)

  pub refused_exactly : (r : Refusal) (p : Place) → ((run_of text input lent budget).ending ≡ Refused r p) ↔ RefusedFor text lent r p
  refused_exactly r p = (refused_view (run_view text input lent budget) r p, λ h. ap (λ x. x.ending) (for_view r p h))

  -- a refused run is not begun
  pub refused_fresh : (r : Refusal) (p : Place) → (run_of text input lent budget).ending ≡ Refused r p
      → run_of text input lent budget ≡ ends_with (Refused r p) (fresh text input lent)
  refused_fresh r p h = for_view r p ((refused_exactly r p).0 h)

  -- the same by number and place
  pub refused_numbered : (number there : ℕ) → WasRefused (run_of text input lent budget).ending number there ↔ demands.RefusedFor text lent number there
  refused_numbered number there = (
    (λ w.
        let k = refused_told (run_of text input lent budget).ending number there w in
        rw k.numbered at (refused_for ((refused_exactly k.refusal (place there)).0 k.is))),
    (λ f.
        let k = refused_by f in
        rw ((refused_exactly k.0 (place there)).1 k.2) (record { refused = refl; numbered = k.1; placed = refl })),
  )
