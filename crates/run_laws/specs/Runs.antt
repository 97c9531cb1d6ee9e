-- The laws carried to the runner. The carrying is meant so: wherever a run of any call of `run` begins an assignment of one side of a law, what that
-- statement comes to there, on that machine, is what the assignment of the other side would come to there. It is not said of two texts of
-- which one has the one side and one the other: places, and so what a line holds and how long it is, would differ, and with them what else the two
-- runs do. A statement has the proof of its name, in snake case, in `proofs/Runs.antt`.
use Rattle.std.specs.Prelude.{◌≡◌, false, List, ◌++◌, ℕ, ◌≤◌, ◌<◌, length, get_or, Ok}
use Rattle.whole.specs.Texts.{longest_string}
use Rattle.loader.specs.Lines.{Line, lines_of}
use Rattle.loader.specs.Loading.{load_of}
use Rattle.grammar.specs.Trees.{Formula, Variable, assign}
use Rattle.variables.specs.Strings.{Value, whole, text, longest_space}
use Rattle.machine.specs.Items.{fresh}
use Rattle.machine.specs.Machine.{Position, Machine, most_records, room_of}
use Rattle.runner.specs.Run.{entering}
use Rattle.promises.specs.Calls.{RunCall, text_of, input_of, lent_of, budget_of}
use Rattle.promises.specs.StringSpace.{Begins}
use Rattle.laws.specs.Laws.{Gives, GivesWhole, last_part, parted, left_first, right_first, not_both, either_not, excepted, divided_again}
use Rattle.run_laws.specs.Carried.{Spot, ComeToSame, SameBarFourteen}

-- each is a byte, as all that is lent to the code is
abbrev pub AreBytes : List ℕ → Type 0
AreBytes s = (i : ℕ) → i < length s → get_or s i 0 < 256

-- a run that is not refused begins an assignment
pub record Assigns (c : RunCall) (v : Variable) (f : Formula) : Type 0 where
  pub input : AreBytes (input_of c)
  pub small : (lent_of c).space ≤ longest_space
  pub few : (lent_of c).records ≤ most_records
  pub loads : load_of (text_of c) ≡ Ok tt
  pub from : List Line
  pub place : ℕ
  pub machine : Machine
  pub begins : Begins (text_of c) (budget_of c) (entering (fresh (text_of c) (input_of c) (lent_of c)) (lines_of (text_of c))) from place (assign v f) machine

-- one of the two sides of a law
pub data OneOf (f g : Formula) : Formula → Type 0 where
  first : OneOf f g f
  second : OneOf f g g

module _ {c : RunCall} {v : Variable} {f : Formula} (k : Assigns c v f) where
  -- where the assignment stands
  abbrev pub spot_of : Position → Spot
  spot_of after = record { program = text_of c; place = k.place; machine = k.machine; after = after }

  -- by itself a formula comes to a value there
  abbrev pub GivesThere : Formula → Value → Type 0
  GivesThere g x = Gives k.machine.variables (room_of k.machine) g x

-- Wherever a run begins `v = X$` or `v = LEFT$(X$,N)+MID$(X$,N+1)`, and X$ and N give a string and a number from 0 to 254 there, the two come to the
-- same, unless one of them answers 14. That the string has at most 255 bytes is not asked: it is shown. It does not say where 14 comes. Ruled out: a
-- MID$ that counts from 0; a LEFT$ that answers 5 where the string is shorter than N.
abbrev pub PartsJoinAgainInRuns : Type 0
PartsJoinAgainInRuns =
    (c : RunCall) (v : Variable) (X N f : Formula) (x : List ℕ) (n : ℕ) → OneOf X (parted X N) f → (k : Assigns c v f)
    → GivesThere k X (text x) → GivesThere k N (whole n) → n ≤ last_part
    → (after : Position) → SameBarFourteen (spot_of k after) v X (parted X N)

-- Wherever a run begins `v = (A$+B$)+C$` or `v = A$+(B$+C$)`, and the three give strings of at most 255 bytes in all there, the two come to the same,
-- unless one of them answers 14. It does not say which bytes: `BracketsDoNotMatter` does. Ruled out: a `+` that answers 15 where its left side has over
-- 127 bytes; one that takes 100 bytes of its right side.
abbrev pub BracketsDoNotMatterInRuns : Type 0
BracketsDoNotMatterInRuns =
    (c : RunCall) (v : Variable) (A B C f : Formula) (a b d : List ℕ) → OneOf (left_first A B C) (right_first A B C) f → (k : Assigns c v f)
    → GivesThere k A (text a) → GivesThere k B (text b) → GivesThere k C (text d) → length (a ++ (b ++ d)) ≤ longest_string
    → (after : Position) → SameBarFourteen (spot_of k after) v (left_first A B C) (right_first A B C)

-- Wherever a run begins `v = NOT (A AND B)` or `v = NOT A OR NOT B`, and A and B give whole numbers there, the two come to the same; 14 is no exception.
-- It says nothing where A or B gives none. Ruled out: a NOT that changes the sign; an OR that adds.
abbrev pub NotOfAndInRuns : Type 0
NotOfAndInRuns =
    (c : RunCall) (v : Variable) (A B f : Formula) (a b : ℕ) → OneOf (not_both A B) (either_not A B) f → (k : Assigns c v f)
    → GivesThere k A (whole a) → GivesThere k B (whole b)
    → (after : Position) → ComeToSame (spot_of k after) v (not_both A B) (either_not A B)

-- Wherever a run begins `v = A` or `v = (A\B)*B + A MOD B`, and A and B give whole numbers there that are not excepted, the two come to the same. B
-- need not stand in the statement, so that its number is asked to be one of 16 bits. It says nothing of the exceptions: `numbers_hold` shows them. Ruled
-- out, each alone: a division that rounds -7\2 down to -4; a MOD that has the sign of the right side.
abbrev pub DivisionComesBackInRuns : Type 0
DivisionComesBackInRuns =
    (c : RunCall) (v : Variable) (A B f : Formula) (a b : ℕ) → OneOf A (divided_again A B) f → (k : Assigns c v f)
    → GivesThere k A (whole a) → GivesWhole k.machine.variables (room_of k.machine) B b → excepted a b ≡ false
    → (after : Position) → ComeToSame (spot_of k after) v A (divided_again A B)
