-- Error 7 for records.
use mathlib.Core.Path.{◌≡◌, refl, sym, ap, subst, ◌∙◌}
use mathlib.Core.List.{List, ◌∷◌}
use mathlib.Core.Logic.{◌↔◌}
use Prim.Native.Nat.{ℕ, zero, suc, ◌≤◌}
use native.Mathlib.Omega.{arith}
use borrow.Author.Tests.{le-leb, le-ltb, leb-true, ne_eqb}
use lib.Dec.{leb}
use lib.ListN.{length}
use Rattle.whole.proofs.Never.{never}
use Rattle.whole.specs.declared.errors.Error.TheVariants.{OutOfMemory}
use Rattle.words.specs.Places.{line_number}
use Rattle.words.proofs.Choices.{by_test}
use Rattle.loader.specs.Lines.{Line, lines_of}
use Rattle.grammar.specs.Trees.{Formula, Statement}
use Rattle.statements.specs.Parts.{Rest, tail_of}
use Rattle.variables.specs.Strings.{longest_space}
use Rattle.machine.specs.Items.{fresh}
use Rattle.machine.specs.Machine.{Position, Record, loop, call, again, Machine, most_records, with_records}
use Rattle.turns.specs.Steps.{Next, goes_on, enters, fails, worked_whole, pushed, here_of, do_statement}
use Rattle.runner.specs.Run.{Ran, ends_with, line_number_of, Standing, finished, at, entering, following, turn, running, run_of}
use Rattle.runner.specs.declared.running.Ran as code
use Rattle.runner.specs.declared.running.Outcome.TheVariants.{Failed}
use Rattle.promises.specs.Calls.{text_of, input_of, lent_of, budget_of}
use Rattle.promises.specs.StringSpace as asks
use Rattle.promises.specs.StringSpace.{Begins}
use Rattle.promises.specs.Seven as seven
use Rattle.promises.specs.Seven.{AllTaken, WorksOut, SevenExactly, LackedRecordsEnd, RecordsWithinLent}
use Rattle.promises.specs.Passing.{stands_after}
use Rattle.promises.proofs.Limits.Keeping.{Keeps}
use Rattle.promises.proofs.Limits.Bounds.{Stands, entering_stands, turn_stands}

-- ---- a record more

module _ (m : Machine) (r : Record) (go : Machine → Next) (goes : fails OutOfMemory m ≡ go (with_records m (r ∷ m.records)) → ⊥) where
  pushed_full : AllTaken m → pushed m r go ≡ fails OutOfMemory m
  pushed_full h = rw (le-leb m.record_room (length m.records) h)

  pushed_exactly : (pushed m r go ≡ fails OutOfMemory m) ↔ AllTaken m
  pushed_exactly = (
    (λ e. by_test (leb m.record_room (length m.records)) (λ t. leb-true _ _ t) (λ t. absurd (goes (sym (rw t at e))))),
    pushed_full,
  )

on_goes : {m n : Machine} {p : Position} → fails OutOfMemory m ≡ goes_on n p → ⊥
on_goes e = never (cc)

on_enters : {m n : Machine} {ls : List Line} → fails OutOfMemory m ≡ enters n ls → ⊥
on_enters e = never (cc)

-- what is equal to something is it exactly when that is
same_exactly : {A P : Type 0} {x y z : A} → x ≡ y → (y ≡ z) ↔ P → (x ≡ z) ↔ P
same_exactly e h = (λ f. h.0 (sym e ∙ f), λ p. e ∙ h.1 p)

works_out : {f : Formula} {m : Machine} {w : ℕ} {n : Machine} (go : ℕ → Machine → Next) → WorksOut f m w n → worked_whole f m go ≡ go w n
works_out go k = rw (k.is, k.noted)

pub seven_exactly : SevenExactly
seven_exactly program lines rest spot m x asking (seven.call l y ys e) =
    same_exactly (rw e) (pushed_exactly m (call (record { lines = lines; rest = rest })) (λ n. enters n (y ∷ ys)) on_enters)
seven_exactly program lines rest spot m x asking (seven.loop v from to by start limit step m₁ m₂ m₃ kind a b c room past) =
    same_exactly
    (rw kind (works_out _ a ∙ works_out _ b ∙ works_out _ c ∙ rw (room, past)))
    (pushed_exactly asking (loop v.telling limit step (record { lines = lines; rest = rest })) (λ o. goes_on o (record { lines = lines; rest = rest })) on_goes)
seven_exactly program lines rest spot m x asking (seven.again c wend w n partner works holds own) =
    same_exactly
    (rw partner (works_out _ works ∙ rw (own, ne_eqb w 0 holds)))
    (pushed_exactly n (again (here_of spot c (record { lines = lines; rest = rest }))) (λ o. goes_on o (record { lines = lines; rest = rest })) on_goes)

-- ---- a run

over_stays : (n : ℕ) (program : List ℕ) (r : Ran) → running n program (finished r) ≡ r
unfolding running
over_stays zero program r = refl
over_stays (suc n) program r = refl

module _ (program : List ℕ) (o : Machine) where
  running_ends : (n : ℕ) (s : Standing) (ls : List Line) (q : ℕ) (x : Statement) (m : Machine) → Begins program n s ls q x m
      → ((rest : Rest) → do_statement program q x m (record { lines = ls; rest = rest }) ≡ fails OutOfMemory o)
      → (running n program s).ending ≡ Failed OutOfMemory (line_number_of ls)
  unfolding running
  running_ends (suc n) (at m lines p) ls q x k asks.first f =
      ap (λ z. (running n program (following (line_number_of lines) z)).ending) (f (tail_of p))
      ∙ ap (λ (r : Ran). r.ending) (over_stays n program (ends_with (Failed OutOfMemory (line_number_of lines)) o))
  running_ends (suc n) (at m lines p) ls q x k (asks.later d) f = running_ends n (turn program m lines p) ls q x k d f
  running_ends zero s ls q x k x4 f = elim x4 [ ]
  running_ends (suc n) (finished _) ls q x k x9 f = elim x9 [ ]

pub lacked_records_end : LackedRecordsEnd
unfolding run_of
lacked_records_end c line h =
    let ends : (run_of (text_of c) (input_of c) (lent_of c) (budget_of c)).ending ≡ Failed OutOfMemory (line_number line) =
    rw (le-ltb longest_space (lent_of c).space h.small, le-ltb most_records (lent_of c).records h.few, h.loads, ← h.numbered)
    (running_ends (text_of c) h.asking (budget_of c) (entering (fresh (text_of c) (input_of c) (lent_of c)) (lines_of (text_of c))) h.from h.place h.statement h.machine h.begins
    (λ rest. (seven_exactly (text_of c) h.from rest h.place h.machine h.statement h.asking h.wants).1 h.taken)) in
    let told = ap (λ (y : code.Ran). y.outcome) c.allowed.0 ∙ ends in
    rw told (refl, refl)

-- ---- no more than are lent

record Lodged (n : ℕ) (m : Machine) : Type 0 where
  room : m.record_room ≡ n
  within : length m.records ≤ m.record_room

lodged_kept : (n : ℕ) → Keeps (Lodged n)
lodged_kept n = record {
  changes = record {
    numbers = λ m name w full p. record { room = p.room; within = p.within };
    records = λ m rs few p. record { room = p.room; within = few p.within };
    prints = λ m bytes h p. record { room = p.room; within = p.within };
    takes = λ m left h p. record { room = p.room; within = p.within };
    feeds = λ m l p. record { room = p.room; within = p.within };
  };
  notes = λ m r h p. record { room = p.room; within = p.within };
  strings = λ m name f b r e full p. record { room = p.room; within = p.within };
}

stands_lodged : (n k : ℕ) (program : List ℕ) (s : Standing) → Stands (Lodged n) s → Stands (Lodged n) (stands_after k program s)
unfolding stands_after
stands_lodged n zero program s h = h
stands_lodged n (suc k) program (finished r) h = h
stands_lodged n (suc k) program (at m lines p) h =
    stands_lodged n k program (turn program m lines p)
    (turn_stands (Lodged n) (lodged_kept n) program m lines p (record { room = h.room; within = h.within }))

pub records_within_lent : RecordsWithinLent
records_within_lent text input lent k m lines p e =
    let h : Stands (Lodged lent.records) (at m lines p) =
    subst (Stands (Lodged lent.records)) e
    (stands_lodged lent.records k text (entering (fresh text input lent) (lines_of text))
    (entering_stands (Lodged lent.records) (fresh text input lent) (lines_of text) (record { room = refl; within = omega arith }))) in
    (h.room, omega (arith, h.room, h.within))
