-- A recipe that the check has passed never ends in 2, 8, 13 or 16.
use Rattle.std.specs.Prelude.{Err, Ok, Result}
use Rattle.loader.specs.declared.refusals.RefusedAt.{RefusedAt}
use mathlib.Core.Path.{◌≡◌, refl, ap}
use mathlib.Core.Bool.{true, not}
use mathlib.Core.List.{List, [], ◌∷◌}
use Prim.Native.Nat.{ℕ, zero, suc}
use lib.Dec.{ltb}
use Rattle.words.specs.declared.places.LineNumber.{LineNumber}
use Rattle.loader.specs.Lines.{Line, lines_of, next_line}
use Rattle.loader.specs.Loading.{load_of}
use Rattle.grammar.specs.Trees.{Part}
use Rattle.checker.specs.Check as check
use Rattle.checker.specs.Check.{first_fault, check_of}
use Rattle.machine.specs.Items.{fresh}
use Rattle.machine.specs.Machine.{Position, Machine, most_records, with_step}
use Rattle.statements.specs.Parts.{place_of}
use Rattle.statements.specs.Parts.{Rest, nothing, part, head_of, tail_of}
use Rattle.turns.specs.Steps.{Next, goes_on, enters, ends, stops, fails, do_statement}
use Rattle.runner.specs.Run.{Ran, line_number_of, Entered, over, faulty, opened, enter, Standing, finished, at, by_entered, entering, onward, following, turn, running, if_loaded, run_of}
use Rattle.promises.specs.Passing.{ends_well, CheckedRunsEndWell}
use Rattle.promises.proofs.Numbers.{refusal_spared}
use Rattle.promises.proofs.Checked.Operators.{by_choice}
use Rattle.promises.proofs.Checked.Lines.{PartChecked, part_apart, LinesChecked, RestChecked, RecordsChecked, passed_lines, EnteredChecked, enter_checked}
use Rattle.promises.proofs.Checked.Statements.{NextChecked, statement_checked}
use Rattle.variables.specs.Strings.{longest_space}

abbrev EndsWell : Ran → Type 0
EndsWell r = ends_well r.ending ≡ true

-- `all` are the lines of the recipe
module _ (all : List Line) where
  -- the run is over and has ended well, or it stands at a place that the check has found right
  abbrev StandingChecked : Standing → Type 0
  StandingChecked (finished r) = EndsWell r
  StandingChecked (at m lines p) = RecordsChecked all m.records × LinesChecked all lines × PartChecked all p

  entered_checked : (e : Entered) (m : Machine) (lines : List Line) → EnteredChecked all e → RecordsChecked all m.records
      → LinesChecked all lines → StandingChecked (by_entered e m lines)
  entered_checked over m lines h r l = refl
  entered_checked (faulty e) m lines h r l = rw h
  entered_checked (opened p) m lines h r l = (r, l, h)

  entering_checked : (m : Machine) (lines : List Line) → RecordsChecked all m.records → LinesChecked all lines
      → StandingChecked (entering m lines)
  entering_checked m lines r l = entered_checked (enter lines) m lines (enter_checked all lines l) r l

  next_line_checked : (lines : List Line) → LinesChecked all lines → LinesChecked all (next_line lines)
  next_line_checked [] l = tt
  next_line_checked (x ∷ ls) l = l.1

  onward_checked : (m : Machine) (lines : List Line) (rest : Rest) → RecordsChecked all m.records → LinesChecked all lines
      → RestChecked all rest → StandingChecked (onward m lines rest)
  onward_checked m lines nothing r l h = entering_checked m (next_line lines) r (next_line_checked lines l)
  onward_checked m lines (part p) r l h = (r, l, h)

  following_checked : (line : LineNumber) (n : Next) → NextChecked all n → StandingChecked (following line n)
  following_checked line (goes_on m p) h = onward_checked m p.lines p.rest h.0 h.1.0 h.1.1
  following_checked line (enters m lines) h = entering_checked m lines h.0 h.1
  following_checked line (ends m) h = refl
  following_checked line (stops m) h = refl
  following_checked line (fails e m) h = rw h

module _ (program : List ℕ) (lines : LinesChecked (lines_of program) (lines_of program)) where
  turn_checked : (m : Machine) (ls : List Line) (p : Part) → StandingChecked (lines_of program) (at m ls p)
      → StandingChecked (lines_of program) (turn program m ls p)
  turn_checked m ls p h =
      let t = part_apart (lines_of program) p h.2 in
      let after : Position = record { lines = ls; rest = tail_of p } in
      following_checked (lines_of program) (line_number_of ls) (do_statement program (place_of p) (head_of p) (with_step m) after)
      (statement_checked program lines (place_of p) (head_of p) (with_step m) after t.0 t.1 h.0 (h.1, t.2))

  running_ends_well : (budget : ℕ) (s : Standing) → StandingChecked (lines_of program) s → EndsWell (running budget program s)
  unfolding running
  running_ends_well zero (finished r) h = h
  running_ends_well zero (at m ls p) h = refl
  running_ends_well (suc n) (finished r) h = h
  running_ends_well (suc n) (at m ls p) h = running_ends_well n (turn program m ls p) (turn_checked m ls p h)

-- a run of a text that is not loaded is refused; a text that the check has passed is loaded, and its lines are sound
loaded_ends_well : (l : Result (Unit {0}) RefusedAt) (text : List ℕ) (m : Machine) (budget : ℕ) → m.records ≡ []
    → check.if_loaded l (λ _. first_fault (lines_of text) (lines_of text)) ≡ Ok tt
    → EndsWell (if_loaded l m (λ _. running budget text (entering m (lines_of text))))
loaded_ends_well (Ok _) text m budget r e =
    let lines = passed_lines (lines_of text) (lines_of text) e in
    running_ends_well text lines budget (entering m (lines_of text))
    (entering_checked (lines_of text) m (lines_of text) (rw r tt) lines)
loaded_ends_well (Err x) text m budget r e = ap not (refusal_spared x.refusal)

pub checked_runs_end_well : CheckedRunsEndWell
unfolding check_of run_of
checked_runs_end_well text input lent budget e =
    by_choice EndsWell (ltb longest_space lent.space) refl
    (by_choice EndsWell (ltb most_records lent.records) refl (loaded_ends_well (load_of text) text (fresh text input lent) budget refl e))
