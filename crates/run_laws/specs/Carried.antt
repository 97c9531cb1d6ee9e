-- What two assignments of one variable come to on one machine.
use Rattle.std.specs.Prelude.{◌≡◌, List, ℕ}
use Rattle.whole.specs.declared.errors.Error.TheVariants.{OutOfStringSpace}
use Rattle.grammar.specs.Trees.{Formula, Variable, assign}
use Rattle.machine.specs.Machine.{Position, Machine, noting}
use Rattle.turns.specs.Steps.{Next, goes_on, enters, ends, stops, fails, do_statement}

-- the machine but for the most unfinished strings that it notes: no answer of a run tells them, and no statement looks at them
abbrev pub unnoted : Machine → Machine
unnoted m = noting m (record { limit = 0; live = 0; unfinished = 0; highest = 0 })

abbrev pub but_for_notes : Next → Next
but_for_notes (goes_on m p) = goes_on (unnoted m) p
but_for_notes (enters m lines) = enters (unnoted m) lines
but_for_notes (ends m) = ends (unnoted m)
but_for_notes (stops m) = stops (unnoted m)
but_for_notes (fails e m) = fails e (unnoted m)

-- where a statement of a program stands: its place in its line, the machine that has counted it, and where the run goes on after it
pub record Spot : Type 0 where
  pub program : List ℕ
  pub place : ℕ
  pub machine : Machine
  pub after : Position

-- what the assignment of a formula to a variable comes to there
abbrev pub assigning : Spot → Variable → Formula → Next
assigning s v f = do_statement s.program s.place (assign v f) s.machine s.after

-- the two come to the same: the run goes on at the same place with the same variables, records, output, input and steps, or ends in the
-- same error
abbrev pub ComeToSame : Spot → Variable → Formula → Formula → Type 0
ComeToSame s v f g = but_for_notes (assigning s v f) ≡ but_for_notes (assigning s v g)

abbrev pub AnswersFourteen : Next → Type 0
AnswersFourteen (goes_on m p) = ⊥
AnswersFourteen (enters m lines) = ⊥
AnswersFourteen (ends m) = ⊥
AnswersFourteen (stops m) = ⊥
AnswersFourteen (fails e m) = e ≡ OutOfStringSpace

-- the same, unless one of them answers 14
pub data SameBarFourteen (s : Spot) (v : Variable) (f g : Formula) : Type 0 where
  same : ComeToSame s v f g → SameBarFourteen s v f g
  first_lacks : AnswersFourteen (assigning s v f) → SameBarFourteen s v f g
  second_lacks : AnswersFourteen (assigning s v g) → SameBarFourteen s v f g
