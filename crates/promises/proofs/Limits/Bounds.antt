-- What a run never exceeds: its budget, the room for output, the input and the string space.
use Rattle.std.specs.Prelude.{Err, Ok, Result}
use Rattle.loader.specs.declared.refusals.RefusedAt.{RefusedAt}
use Rattle.loader.specs.Refusals.{refused_at}
use mathlib.Core.Path.{◌≡◌, refl}
use mathlib.Core.Bool.{false}
use mathlib.Core.List.{List}
use Prim.Native.Nat.{ℕ, zero, suc, ◌+◌, ◌≤◌, ◌<◌}
use native.Mathlib.Omega.{arith}
use borrow.Author.Tests.{ltb-true, ltb-false}
use lib.Dec.{ltb}
use lib.ListN.{length, length-append}
use Rattle.words.specs.Places.{place}
use Rattle.words.specs.declared.places.LineNumber.{LineNumber}
use Rattle.words.specs.declared.places.Place.{Place}
use Rattle.words.proofs.Choices.{by_test}
use Rattle.loader.specs.Lines.{Line, lines_of, next_line}
use Rattle.loader.specs.Loading.{load_of}
use Rattle.loader.specs.declared.refusals.Refusal.{Refusal}
use Rattle.loader.specs.declared.refusals.Refusal.TheVariants.{SpaceTooLong, StackTooLong}
use Rattle.grammar.specs.Trees.{Formula, Part}
use Rattle.variables.specs.Strings as string
use Rattle.variables.specs.Strings.{Room, value, longest_space}
use Rattle.variables.specs.Variables.{string_bytes}
use Rattle.operators.specs.Values.{value_of}
use Rattle.machine.specs.Items.{fresh}
use Rattle.machine.specs.Machine.{Machine, Lent, most_records, room_of, with_step}
use Rattle.statements.specs.Parts.{place_of}
use Rattle.statements.specs.Parts.{Rest, nothing, part, head_of, tail_of}
use Rattle.turns.specs.Steps.{Next, goes_on, enters, ends, stops, fails, do_statement}
use Rattle.runner.specs.Run.{ends_with, line_number_of, Entered, over, faulty, opened, enter, Standing, finished, at, by_entered, entering, onward, following, turn, running, run_of}
use Rattle.runner.specs.declared.running.Outcome.TheVariants.{Refused}
use Rattle.promises.specs.Unfinished.{LiveIsExactFacts}
use Rattle.promises.proofs.Limits.Keeping.{Leaves, Keeps, statement_keeps}
use Rattle.promises.proofs.Fourteen.Rooms.{text_fits}

-- ---- where a run stands

abbrev pub Stands : (Machine → Type 0) → Standing → Type 0
Stands P (finished r) = P r.machine
Stands P (at m lines p) = P m

entered_stands : (P : Machine → Type 0) (e : Entered) (m : Machine) (lines : List Line) → P m → Stands P (by_entered e m lines)
entered_stands P over m lines p = p
entered_stands P (faulty e) m lines p = p
entered_stands P (opened q) m lines p = p

pub entering_stands : (P : Machine → Type 0) (m : Machine) (lines : List Line) → P m → Stands P (entering m lines)
entering_stands P m lines p = entered_stands P (enter lines) m lines p

onward_stands : (P : Machine → Type 0) (m : Machine) (lines : List Line) (rest : Rest) → P m → Stands P (onward m lines rest)
onward_stands P m lines nothing p = entering_stands P m (next_line lines) p
onward_stands P m lines (part q) p = p

pub following_stands : (P : Machine → Type 0) (l : LineNumber) (n : Next) → Leaves P n → Stands P (following l n)
following_stands P l (goes_on m q) p = onward_stands P m q.lines q.rest p
following_stands P l (enters m lines) p = entering_stands P m lines p
following_stands P l (ends m) p = p
following_stands P l (stops m) p = p
following_stands P l (fails e m) p = p

-- one turn
pub turn_stands : (P : Machine → Type 0) → Keeps P → (program : List ℕ) (m : Machine) (lines : List Line) (p : Part) → P (with_step m)
    → Stands P (turn program m lines p)
turn_stands P k program m lines p h =
    following_stands P (line_number_of lines) (do_statement program (place_of p) (head_of p) (with_step m) (record { lines = lines; rest = tail_of p }))
    (statement_keeps P k program (place_of p) (head_of p) (with_step m) (record { lines = lines; rest = tail_of p }) h)

-- all turns
pub running_keeps : (P : Machine → Type 0) → Keeps P → ((m : Machine) → P m → P (with_step m))
    → (n : ℕ) (program : List ℕ) (s : Standing) → Stands P s → P (running n program s).machine
unfolding running
running_keeps P k step zero program (finished r) h = h
running_keeps P k step zero program (at m lines p) h = h
running_keeps P k step (suc n) program (finished r) h = h
running_keeps P k step (suc n) program (at m lines p) h =
    running_keeps P k step n program (turn program m lines p) (turn_stands P k program m lines p (step m h))

-- ---- a whole run: it is refused, or it is the turns from the first line on

pub data RunView (text input : List ℕ) (lent : Lent) (budget : ℕ) : Type 0 where
  long : longest_space < lent.space → run_of text input lent budget ≡ ends_with (Refused SpaceTooLong (place 0)) (fresh text input lent)
      → RunView text input lent budget
  tall : lent.space ≤ longest_space → most_records < lent.records → run_of text input lent budget ≡ ends_with (Refused StackTooLong (place 0)) (fresh text input lent)
      → RunView text input lent budget
  unloaded : (r : Refusal) (p : Place) → lent.space ≤ longest_space → lent.records ≤ most_records → load_of text ≡ refused_at r p
      → run_of text input lent budget ≡ ends_with (Refused r p) (fresh text input lent) → RunView text input lent budget
  runs : lent.space ≤ longest_space → lent.records ≤ most_records → load_of text ≡ Ok tt
      → run_of text input lent budget ≡ running budget text (entering (fresh text input lent) (lines_of text))
      → RunView text input lent budget

pub run_view : (text input : List ℕ) (lent : Lent) (budget : ℕ) → RunView text input lent budget
unfolding run_of
run_view text input lent budget =
    by_test (ltb longest_space lent.space) (λ t. long (ltb-true _ _ t) (rw t)) λ t.
    by_test (ltb most_records lent.records) (λ u. tall (ltb-false _ _ t) (ltb-true _ _ u) (rw (t, u))) (λ u. loads (load_of text) refl t u)
  where
    loads : (x : Result (Unit {0}) RefusedAt) → load_of text ≡ x → ltb longest_space lent.space ≡ false → ltb most_records lent.records ≡ false → RunView text input lent budget
    loads (Ok _) e t u = runs (ltb-false _ _ t) (ltb-false _ _ u) e (rw (t, u, e))
    loads (Err x) e t u = unloaded x.refusal x.place (ltb-false _ _ t) (ltb-false _ _ u) e (rw (t, u, e))

run_from : (P : Machine → Type 0) (text input : List ℕ) (lent : Lent) (budget : ℕ) → RunView text input lent budget
    → P (fresh text input lent) → P (running budget text (entering (fresh text input lent) (lines_of text))).machine
    → P (run_of text input lent budget).machine
run_from P text input lent budget (long h e) p q = rw e p
run_from P text input lent budget (tall h k e) p q = rw e p
run_from P text input lent budget (unloaded r l h k f e) p q = rw e p
run_from P text input lent budget (runs h k f e) p q = rw e q

pub run_keeps : (P : Machine → Type 0) → Keeps P → ((m : Machine) → P m → P (with_step m))
    → (text input : List ℕ) (lent : Lent) (budget : ℕ) → P (fresh text input lent) → P (run_of text input lent budget).machine
run_keeps P k step text input lent budget p =
    run_from P text input lent budget (run_view text input lent budget) p
    (running_keeps P k step budget text (entering (fresh text input lent) (lines_of text))
    (entering_stands P (fresh text input lent) (lines_of text) p))

-- ---- steps

pub steps_kept : (n : ℕ) → Keeps (λ m. m.steps ≡ n)
steps_kept n = record {
  changes = record {
    numbers = λ m name w full p. p;
    records = λ m rs few p. p;
    prints = λ m bytes h p. p;
    takes = λ m left h p. p;
    feeds = λ m l p. p;
  };
  notes = λ m room h p. p;
  strings = λ m name f b room e full p. p;
}

running_steps : (n : ℕ) (program : List ℕ) (s : Standing) (k : ℕ) → Stands (λ m. m.steps ≡ k) s → (running n program s).machine.steps ≤ k + n
unfolding running
running_steps zero program (finished r) k h = omega arith
running_steps zero program (at m lines p) k h = omega arith
running_steps (suc n) program (finished r) k h = omega arith
running_steps (suc n) program (at m lines p) k h =
    let stands = turn_stands (λ m. m.steps ≡ suc k) (steps_kept (suc k)) program m lines p (omega arith) in
    let more = running_steps n program (turn program m lines p) (suc k) stands in
    omega arith

pub steps_within : (text input : List ℕ) (lent : Lent) (budget : ℕ) → (run_of text input lent budget).machine.steps ≤ budget
steps_within text input lent budget =
    run_from (λ m. m.steps ≤ budget) text input lent budget (run_view text input lent budget) (omega arith)
    (let h = running_steps budget text (entering (fresh text input lent) (lines_of text)) 0
    (entering_stands (λ m. m.steps ≡ 0) (fresh text input lent) (lines_of text) refl) in omega arith)

-- ---- output

record Printable (room : ℕ) (m : Machine) : Type 0 where
  lent : m.output_room ≡ room
  within : length m.output ≤ m.output_room

output_kept : (room : ℕ) → Keeps (Printable room)
output_kept room = record {
  changes = record {
    numbers = λ m name w full p. record { lent = p.lent; within = p.within };
    records = λ m rs few p. record { lent = p.lent; within = p.within };
    prints = λ m bytes h p. record { lent = p.lent; within = omega (arith, length-append m.output bytes) };
    takes = λ m left h p. record { lent = p.lent; within = p.within };
    feeds = λ m l p. record { lent = p.lent; within = p.within };
  };
  notes = λ m r h p. record { lent = p.lent; within = p.within };
  strings = λ m name f b r e full p. record { lent = p.lent; within = p.within };
}

pub output_within : (text input : List ℕ) (lent : Lent) (budget : ℕ) → length (run_of text input lent budget).machine.output ≤ lent.room
output_within text input lent budget =
    let step : (m : Machine) → Printable lent.room m → Printable lent.room (with_step m) = λ m p. record { lent = p.lent; within = p.within } in
    let h = run_keeps (Printable lent.room) (output_kept lent.room) step text input lent budget (record { lent = refl; within = omega arith }) in
    omega arith

-- ---- input

input_kept : (n : ℕ) → Keeps (λ m. m.taken + length m.input ≡ n)
input_kept n = record {
  changes = record {
    numbers = λ m name w full p. p;
    records = λ m rs few p. p;
    prints = λ m bytes h p. p;
    takes = λ m left h p. omega arith;
    feeds = λ m l p. omega arith;
  };
  notes = λ m room h p. p;
  strings = λ m name f b room e full p. p;
}

pub input_within : (text input : List ℕ) (lent : Lent) (budget : ℕ) → (run_of text input lent budget).machine.taken ≤ length input
input_within text input lent budget =
    let h = run_keeps (λ m. m.taken + length m.input ≡ length input) (input_kept (length input)) (λ m p. p) text input lent budget (omega arith) in
    omega arith

-- ---- strings

record Storable (space : ℕ) (m : Machine) : Type 0 where
  lent : m.space ≡ space
  within : string_bytes m.variables.strings ≤ m.space

module _ (exact : LiveIsExactFacts) where
  strings_fit : (m : Machine) (f : Formula) (b : List ℕ) (room : Room) → value_of f m.variables (room_of m) ≡ value (string.text b) room
      → string_bytes m.variables.strings + length b ≤ m.space
  strings_fit m f b room e =
      let fits : room.live ≤ room.limit = rw e at (text_fits f m.variables (room_of m)) in
      let grown = rw e at (exact.formulas f m.variables (room_of m)) in
      omega (arith, grown.limit, grown.live)

  strings_kept : (space : ℕ) → Keeps (Storable space)
  strings_kept space = record {
    changes = record {
      numbers = λ m name w full p. record { lent = p.lent; within = p.within };
      records = λ m rs few p. record { lent = p.lent; within = p.within };
      prints = λ m bytes h p. record { lent = p.lent; within = p.within };
      takes = λ m left h p. record { lent = p.lent; within = p.within };
      feeds = λ m l p. record { lent = p.lent; within = p.within };
    };
    notes = λ m r h p. record { lent = p.lent; within = p.within };
    strings = λ m name f b r e full p.
        record { lent = p.lent; within = omega (arith, strings_fit m f b r e, exact.assignments m.variables.strings name b) };
  }

  pub strings_within : (text input : List ℕ) (lent : Lent) (budget : ℕ)
      → string_bytes (run_of text input lent budget).machine.variables.strings ≤ lent.space
  unfolding string_bytes
  strings_within text input lent budget =
      let step : (m : Machine) → Storable lent.space m → Storable lent.space (with_step m) = λ m p. record { lent = p.lent; within = p.within } in
      let h = run_keeps (Storable lent.space) (strings_kept lent.space) step text input lent budget (record { lent = refl; within = omega arith }) in
      omega arith
