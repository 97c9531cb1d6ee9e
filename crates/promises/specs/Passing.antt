-- Demand 3, its first half: what the check promises of every run of a recipe that it has passed.
use Rattle.std.specs.Prelude.{◌≡◌, Bool, true, false, not, ◌||◌, List, [], ◌∷◌, ℕ, zero, suc, eqb, Ok}
use Rattle.whole.specs.Errors.{error_number}
use Rattle.checker.specs.Check.{check_of}
use Rattle.loader.specs.Lines.{Line, lines_of}
use Rattle.grammar.specs.Trees as tree
use Rattle.grammar.specs.Trees.{Statement, Part}
use Rattle.machine.specs.Items.{fresh}
use Rattle.machine.specs.Machine.{Machine, Lent, with_step}
use Rattle.statements.specs.Parts.{place_of}
use Rattle.statements.specs.Parts.{head_of, tail_of}
use Rattle.turns.specs.Steps.{Next, goes_on, enters, ends, stops, fails, do_statement}
use Rattle.runner.specs.Run.{Standing, finished, at, entering, turn, run_of, number_in}
use Rattle.runner.specs.declared.running.Outcome.{Outcome}

-- the numbers of the errors that the check looks for, and so spares a run
abbrev pub spared_numbers : List ℕ
spared_numbers = 2 ∷ 8 ∷ 13 ∷ 16 ∷ []

-- a number is one of some
abbrev pub one_of : List ℕ → ℕ → Bool
one_of [] n = false
one_of (k ∷ ks) n = eqb n k || one_of ks n

-- a run ends well unless its number is one of these
abbrev pub ends_well : Outcome → Bool
ends_well o = not (one_of spared_numbers (number_in o))

-- A recipe that the check has passed never ends in 2, 8, 13 or 16: with any input, string space, room for output and budget of steps.
-- It says nothing of the other errors (a division by zero, a string space that is full), which no check can foresee, and nothing of
-- recipes that the check has not passed.
abbrev pub CheckedRunsEndWell : Type 0
CheckedRunsEndWell =
    (text input : List ℕ) (lent : Lent) (budget : ℕ) → check_of text ≡ Ok tt → ends_well (run_of text input lent budget).ending ≡ true

-- ---- NEXT always has room for its variable

-- where a run stands after so many statements, if it has not ended before
unfoldable pub stands_after : ℕ → List ℕ → Standing → Standing
stands_after zero program s = s
stands_after (suc n) program (finished r) = finished r
stands_after (suc n) program (at m lines p) = stands_after n program (turn program m lines p)

abbrev pub is_next : Statement → Bool
is_next tree.empty = false
is_next (tree.assign v f) = false
is_next (tree.print is) = false
is_next (tree.if_then c p) = false
is_next (tree.if_else c p q) = false
is_next (tree.goto l) = false
is_next (tree.gosub l) = false
is_next tree.return = false
is_next (tree.for v from to by) = false
is_next tree.next = true
is_next (tree.next_of v) = true
is_next (tree.while c) = false
is_next tree.wend = false
is_next (tree.line_input t v) = false
is_next (tree.data_of l) = false
is_next (tree.read vs) = false
is_next tree.restore = false
is_next (tree.restore_to l) = false
is_next tree.end = false
is_next tree.stop = false
is_next tree.remark = false

-- a statement ends the run in 7
abbrev pub lacks_room : Next → Bool
lacks_room (goes_on m p) = false
lacks_room (enters m lines) = false
lacks_room (ends m) = false
lacks_room (stops m) = false
lacks_room (fails e m) = eqb (error_number e) 7

-- NEXT stores its variable as an assignment does, and yet never ends in 7: wherever a run of any recipe comes to a NEXT, the FOR of
-- the loop that it takes has made the variable. It says nothing of the other errors of a NEXT (1, 6, 13).
abbrev pub NextHasRoom : Type 0
NextHasRoom =
    (text input : List ℕ) (lent : Lent) (statements : ℕ) (m : Machine) (lines : List Line) (p : Part)
    → stands_after statements text (entering (fresh text input lent) (lines_of text)) ≡ at m lines p → is_next (head_of p) ≡ true
    → lacks_room (do_statement text (place_of p) (head_of p) (with_step m) (record { lines = lines; rest = tail_of p })) ≡ false
