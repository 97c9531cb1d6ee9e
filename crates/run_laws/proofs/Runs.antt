-- The laws in runs: where a run begins a statement the machine holds whole numbers and strings alone, and so do the statement's formulas.
use mathlib.Core.Path.{◌≡◌, refl}
use mathlib.Core.List.{List, [], ◌∷◌, ◌++◌}
use Prim.Native.Nat.{ℕ}
use Rattle.words.specs.declared.places.LineNumber.{LineNumber}
use Rattle.loader.specs.Lines.{Line, lines_of, after_number, next_line}
use Rattle.grammar.specs.Trees.{Formula, Variable, Statement, Part}
use Rattle.statements.specs.Parts.{head_of, tail_of, Rest, nothing, part, place_of}
use Rattle.reader.specs.Lines.{Judgement, unreadable, too_deep, holds, judgement}
use Rattle.variables.specs.Strings.{Value, whole, text}
use Rattle.machine.specs.Items.{fresh}
use Rattle.machine.specs.Machine.{Position, Machine, Lent, room_of, with_step}
use Rattle.turns.specs.Steps.{Next, goes_on, enters, ends, stops, fails, do_statement}
use Rattle.runner.specs.Run.{line_number_of, enter, judged_line, Standing, finished, at, by_entered, entering, onward, following, turn}
use Rattle.promises.specs.Calls.{RunCall, text_of, input_of, lent_of}
use Rattle.promises.specs.StringSpace as space
use Rattle.promises.specs.StringSpace.{Begins}
use Rattle.laws.specs.Laws.{Gives, parted, left_first, right_first, not_both, either_not, divided_again}
use Rattle.run_laws.specs.Runs.{AreBytes, Assigns, OneOf, first, second, spot_of, PartsJoinAgainInRuns, BracketsDoNotMatterInRuns, NotOfAndInRuns, DivisionComesBackInRuns}
use Rattle.laws.proofs.Positions.{head_throughout, next_throughout}
use Rattle.laws.proofs.Texts.{parts_join_again, brackets_do_not_matter}
use Rattle.laws.proofs.Wholes.{not_of_and, division_comes_back}
use Rattle.run_laws.proofs.Carrying.{one_value, one_value_bar_fourteen, given}
use Rattle.run_laws.proofs.Proper.{each_byte, Proper, ProperFormula, value_proper}
use Rattle.run_laws.proofs.Lines.{ProperStatement, lines_items, loaded_proper}
use Rattle.run_laws.proofs.Turning.{ProperLines, ProperPart, ProperRest, Sound, ProperNext, statement_sound}

-- ---- where a run stands

abbrev ProperStanding : Standing → Type 0
ProperStanding (finished r) = Unit {0}
ProperStanding (at m lines p) = Sound m × ProperLines lines × ProperPart p

entering_proper : (m : Machine) (lines : List Line) → Sound m → ProperLines lines → ProperStanding (entering m lines)
unfolding enter
entering_proper m [] s h = tt
entering_proper m (l ∷ ls) s h = by_judgement (judgement (after_number l)) refl
  where
    by_judgement : (j : Judgement) → judgement (after_number l) ≡ j → ProperStanding (by_entered (judged_line j) m (l ∷ ls))
    by_judgement unreadable e = tt
    by_judgement too_deep e = tt
    by_judgement (holds p) e = (s, h, h.0 p e)

onward_proper : (m : Machine) (lines : List Line) (r : Rest) → Sound m → ProperLines lines → ProperRest r → ProperStanding (onward m lines r)
onward_proper m lines nothing s h r = entering_proper m (next_line lines) s (next_throughout ProperStatement lines h)
onward_proper m lines (part p) s h r = (s, h, r)

following_proper : (l : LineNumber) (x : Next) → ProperNext x → ProperStanding (following l x)
following_proper l (goes_on m p) h = onward_proper m p.lines p.rest h.0 h.1.0 h.1.1
following_proper l (enters m lines) h = entering_proper m lines h.0 h.1
following_proper l (ends m) h = tt
following_proper l (stops m) h = tt
following_proper l (fails e m) h = tt

counted : {m : Machine} → Sound m → Sound (with_step m)
counted s = record { variables = s.variables; input = s.input; items = s.items; held = s.held }

turn_proper : (program : List ℕ) (m : Machine) (lines : List Line) (p : Part) → ProperLines (lines_of program) → ProperStanding (at m lines p)
    → ProperStanding (turn program m lines p)
turn_proper program m lines p l h =
    let k = head_throughout ProperStatement p h.2 in
    let after : Position = record { lines = lines; rest = tail_of p } in
    following_proper (line_number_of lines) (do_statement program (place_of p) (head_of p) (with_step m) after)
    (statement_sound program (place_of p) (head_of p) (with_step m) after l k.0 k.1 (counted h.0) (h.1, k.2))

-- a statement that a run begins
pub begun_proper : {program : List ℕ} {n : ℕ} {x : Standing} {ls : List Line} {q : ℕ} {s : Statement} {m : Machine} → Begins program n x ls q s m
    → ProperLines (lines_of program) → ProperStanding x → Sound m × ProperStatement s
begun_proper (space.first {p = p}) l h = (counted h.0, (head_throughout ProperStatement p h.2).0)
begun_proper {program = program} (space.later {m = m} {lines = lines} {p = p} b) l h =
    begun_proper b l (turn_proper program m lines p l h)

fresh_sound : (program input : List ℕ) (lent : Lent) → AreBytes input → ProperLines (lines_of program) → Sound (fresh program input lent)
fresh_sound program input lent h l =
    record { variables = record { numbers = tt; strings = tt }; input = each_byte input h; items = lines_items (lines_of program) l; held = tt }

module _ {c : RunCall} {v : Variable} {f : Formula} (k : Assigns c v f) where
  -- where an assignment is begun, the machine and the formula are proper
  begun_there : Sound k.machine × ProperFormula f
  begun_there =
      let l = loaded_proper (text_of c) k.loads in
      let m = fresh (text_of c) (input_of c) (lent_of c) in
      let b = begun_proper k.begins l (entering_proper m (lines_of (text_of c)) (fresh_sound (text_of c) (input_of c) (lent_of c) k.input l) l) in
      (b.0, b.1.0)

  -- and so is what a part of it gives
  given_proper : {g : Formula} {x : Value} → ProperFormula g → Gives k.machine.variables (room_of k.machine) g x → Proper x
  given_proper {g} p h = rw h.is at (value_proper k.machine.variables begun_there.0.variables g (room_of k.machine) p)

-- ---- what stands on both sides of a law stands in the statement

in_parts : {X N f : Formula} → OneOf X (parted X N) f → ProperFormula f → ProperFormula X
unfolding ProperFormula
in_parts first p = p
in_parts second p = p.0.0.1

in_brackets : {A B C f : Formula} → OneOf (left_first A B C) (right_first A B C) f → ProperFormula f
    → ProperFormula A × ProperFormula B × ProperFormula C
unfolding ProperFormula
in_brackets first p = (p.0.0, p.0.1, p.1)
in_brackets second p = (p.0, p.1.0, p.1.1)

in_both : {A B f : Formula} → OneOf (not_both A B) (either_not A B) f → ProperFormula f → ProperFormula A × ProperFormula B
unfolding ProperFormula
in_both first p = p
in_both second p = p

in_division : {A B f : Formula} → OneOf A (divided_again A B) f → ProperFormula f → ProperFormula A
unfolding ProperFormula
in_division first p = p
in_division second p = p.0.0.0

-- ---- the laws

pub parts_join_again_in_runs : PartsJoinAgainInRuns
parts_join_again_in_runs c v X N f x n o k gx gn h after =
    let p = given_proper k (in_parts o (begun_there k).1) gx in
    one_value_bar_fourteen (spot_of k after) v X (parted X N) (text x) (given gx)
    (parts_join_again _ _ X N x n (record { gives = gx; short = p.0 }) gn h)

pub brackets_do_not_matter_in_runs : BracketsDoNotMatterInRuns
brackets_do_not_matter_in_runs c v A B C f a b d o k ga gb gc short after =
    let p = in_brackets o (begun_there k).1 in
    let same = brackets_do_not_matter _ _ A B C a b d
    (record { gives = ga; short = (given_proper k p.0 ga).0 })
    (record { gives = gb; short = (given_proper k p.1 gb).0 })
    (record { gives = gc; short = (given_proper k p.2 gc).0 }) short in
    one_value_bar_fourteen (spot_of k after) v (left_first A B C) (right_first A B C) (text (a ++ (b ++ d))) same.left same.right

pub not_of_and_in_runs : NotOfAndInRuns
not_of_and_in_runs c v A B f a b o k ga gb after =
    let p = in_both o (begun_there k).1 in
    let same = not_of_and _ _ A B a b
    (record { gives = ga; word = given_proper k p.0 ga })
    (record { gives = gb; word = given_proper k p.1 gb }) in
    one_value (spot_of k after) v (not_both A B) (either_not A B) (whole same.0) same.1.after same.2.after same.1.is same.2.is

pub division_comes_back_in_runs : DivisionComesBackInRuns
division_comes_back_in_runs c v A B f a b o k ga gb e after =
    let again = division_comes_back _ _ A B a b (record { gives = ga; word = given_proper k (in_division o (begun_there k).1) ga }) gb e in
    one_value (spot_of k after) v A (divided_again A B) (whole a) ga.after again.after ga.is again.is
