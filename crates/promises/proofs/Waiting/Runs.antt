-- No run ever has more than 28 unfinished strings.
use Rattle.std.specs.Prelude.{Err, Ok, Result}
use Rattle.loader.specs.declared.refusals.RefusedAt.{RefusedAt}
use mathlib.Core.List.{List, [], ◌∷◌}
use Prim.Native.Nat.{ℕ, zero, suc, ◌≤◌}
use native.Mathlib.Omega.{arith}
use lib.Dec.{ltb}
use Rattle.whole.specs.Bytes.{bytes}
use Rattle.words.specs.declared.places.LineNumber.{LineNumber}
use Rattle.words.proofs.Choices.{by_test}
use Rattle.loader.specs.Lines.{Line, lines_of, after_number, next_line}
use Rattle.loader.specs.Loading.{load_of}
use Rattle.grammar.specs.Trees.{Part}
use Rattle.statements.specs.Parts.{head_of, tail_of, Rest, nothing, part, place_of}
use Rattle.machine.specs.Items.{fresh}
use Rattle.machine.specs.Machine.{Position, Machine, Lent, most_records, with_step}
use Rattle.turns.specs.Steps.{Next, goes_on, enters, ends, stops, fails, do_statement}
use Rattle.runner.specs.Run.{Ran, line_number_of, Entered, over, faulty, opened, enter, Standing, finished, at, by_entered, entering, onward, following, turn, running, if_loaded, run_of}
use Rattle.runner.specs.Examples.{lending, nested, nested_highest}
use Rattle.promises.specs.Unfinished.{most_unfinished, FewUnfinished, MostIsReached}
use Rattle.promises.proofs.Waiting.Reading.{PartFine, EnteredFine, line_fine}
use Rattle.promises.proofs.Waiting.Turns.{RestFine, head_fine, Sound, NextFine, statement_sound}
use Rattle.variables.specs.Strings.{longest_space}

abbrev pub StandingFine : Standing → Type 0
StandingFine (finished r) = r.machine.highest ≤ most_unfinished
StandingFine (at m lines p) = Sound m × PartFine p

entered_fine : (x : Entered) (m : Machine) (lines : List Line) → EnteredFine x → Sound m → StandingFine (by_entered x m lines)
entered_fine over m lines h s = s.few
entered_fine (faulty e) m lines h s = s.few
entered_fine (opened p) m lines h s = (s, h)

enter_fine : (lines : List Line) → EnteredFine (enter lines)
unfolding enter
enter_fine [] = tt
enter_fine (l ∷ ls) = line_fine (after_number l)

pub entering_fine : (m : Machine) (lines : List Line) → Sound m → StandingFine (entering m lines)
entering_fine m lines s = entered_fine (enter lines) m lines (enter_fine lines) s

onward_fine : (m : Machine) (lines : List Line) (r : Rest) → Sound m → RestFine r → StandingFine (onward m lines r)
onward_fine m lines nothing s h = entering_fine m (next_line lines) s
onward_fine m lines (part p) s h = (s, h)

following_fine : (line : LineNumber) (x : Next) → NextFine x → StandingFine (following line x)
following_fine line (goes_on m p) h = onward_fine m p.lines p.rest h.0 h.1
following_fine line (enters m lines) h = entering_fine m lines h
following_fine line (ends m) h = h.few
following_fine line (stops m) h = h.few
following_fine line (fails e m) h = h.few

pub turn_fine : (program : List ℕ) (m : Machine) (lines : List Line) (p : Part) → Sound m → PartFine p → StandingFine (turn program m lines p)
turn_fine program m lines p s h =
    let k = head_fine p h in
    let after : Position = record { lines = lines; rest = tail_of p } in
    following_fine (line_number_of lines) (do_statement program (place_of p) (head_of p) (with_step m) after)
    (statement_sound program (place_of p) (head_of p) (with_step m) after k.0 k.1 (record { few = s.few; held = s.held }) k.2)

running_few : (budget : ℕ) (program : List ℕ) (x : Standing) → StandingFine x → (running budget program x).machine.highest ≤ most_unfinished
unfolding running
running_few zero program (finished r) h = h
running_few zero program (at m lines p) h = h.0.few
running_few (suc n) program (finished r) h = h
running_few (suc n) program (at m lines p) h =
    running_few n program (turn program m lines p) (turn_fine program m lines p h.0 h.1)

pub fresh_sound : (text input : List ℕ) (lent : Lent) → Sound (fresh text input lent)
fresh_sound text input lent = record { few = omega arith; held = tt }

loaded_few : (x : Result (Unit {0}) RefusedAt) (m : Machine) (go : Unit {0} → Ran) → m.highest ≤ most_unfinished → (go tt).machine.highest ≤ most_unfinished
    → (if_loaded x m go).machine.highest ≤ most_unfinished
loaded_few (Ok _) m go h k = k
loaded_few (Err e) m go h k = h

run_few : (text input : List ℕ) (lent : Lent) (budget : ℕ) → (run_of text input lent budget).machine.highest ≤ most_unfinished
unfolding run_of
run_few text input lent budget =
    let m = fresh text input lent in
    let s = fresh_sound text input lent in
    by_test (ltb longest_space lent.space) (λ e. rw e s.few) λ e. rw e
    (by_test (ltb most_records lent.records) (λ f. rw f s.few) λ f. rw f
    (loaded_few (load_of text) m _ s.few (running_few budget text (entering m (lines_of text)) (entering_fine m (lines_of text) s))))

pub few_unfinished : FewUnfinished
few_unfinished text input lent budget =
    let h = run_few text input lent budget in
    record { allowed = omega arith; most = h }

pub most_is_reached : MostIsReached
most_is_reached n h = rw nested_highest at (h (bytes nested) [] (lending 1000) 1000)
