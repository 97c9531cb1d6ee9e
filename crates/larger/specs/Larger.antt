-- More string space does not change a run (document 02, M-107). The statements are about two calls of `run`, and of the library's function for it.
-- A statement has the proof of its name, in snake case, in `proofs/Calls.antt`.
use Rattle.std.specs.Prelude.{◌≡◌, Bool, true, false, ◌&&◌, List, [], ◌∷◌, ◌++◌, ℕ, ◌-◌, ◌≤◌, length, replicate}
use Rattle.loader.specs.Lines.{lines_of}
use Rattle.grammar.specs.Trees.{Formula}
use Rattle.statements.specs.Parts.{formulas_of, head_of}
use Rattle.variables.specs.Strings.{longest_space}
use Rattle.machine.specs.Order.{Stand, stands}
use Rattle.runner.specs.Run.{number_in, is_refused}
use Rattle.promises.specs.Calls.{
  RunCall,
  text_of,
  input_of,
  space_before,
  space_after,
  room_before,
  room_after,
  stack_before,
  stack_after,
  budget_of,
  RunBox,
  text_in,
  input_in,
  space_in,
  space_out,
  room_in,
  room_out,
  records_in,
  records_out,
  budget_in,
  block_out,
  answer_words,
  outcome_word,
  number_word,
  refused_word,
}
use Rattle.promises.specs.Demands.{ran_of}
use Rattle.laws.specs.Laws.{without_fre}

-- ---- recipes without FRE

-- none of some formulas has FRE
unfoldable pub no_fre_in : List Formula → Bool
no_fre_in [] = true
no_fre_in (f ∷ fs) = without_fre f && no_fre_in fs

-- and none of some statements of a text
unfoldable pub no_fre_among : List Stand → Bool
no_fre_among [] = true
no_fre_among (s ∷ ss) = no_fre_in (formulas_of (head_of s.part)) && no_fre_among ss

-- no statement of a line that reads has FRE, branches of IF counted, run or not. Of a line that does not read, or nests too deep, nothing is
-- asked: no statement of it is ever begun
abbrev pub recipe_without_fre : List ℕ → Bool
recipe_without_fre text = no_fre_among (stands (lines_of text))

-- ---- two calls of `run`

-- the second is lent a space that is as long or longer, up to 16,384 bytes, and else the same. What the spaces, the tables and the records hold before
-- is not asked to be alike: a run that is not refused writes them whole
pub record Larger (c d : RunCall) : Type 0 where
  pub text : text_of d ≡ text_of c
  pub input : input_of d ≡ input_of c
  pub room : room_before d ≡ room_before c
  pub records : length (stack_before d) ≡ length (stack_before c)
  pub budget : budget_of d ≡ budget_of c
  pub longer : length (space_before c) ≤ length (space_before d)
  pub small : length (space_before d) ≤ longest_space

-- it is not refused and does not end in 14
pub record HadSpace (c : RunCall) : Type 0 where
  pub taken : is_refused c.answer.outcome ≡ false
  pub enough : number_in c.answer.outcome ≡ 14 → ⊥

-- a space is another with zeros after it
abbrev pub WithZeros : List ℕ → List ℕ → Type 0
WithZeros longer space = longer ≡ space ++ replicate (length longer - length space) 0

-- the same outcome, steps, counts and tables; output; variables; records; and bytes of the space, but for more zeros at its end
pub record SameNight (c d : RunCall) : Type 0 where
  pub answer : d.answer ≡ c.answer
  pub room : room_after d ≡ room_after c
  pub variables : (ran_of d).machine.variables ≡ (ran_of c).machine.variables
  pub space : WithZeros (space_after d) (space_after c)
  pub stack : stack_after d ≡ stack_after c

-- Where a recipe without FRE is run, is not refused and does not end in 14, a run with a larger space answers and leaves the same: outcome with
-- its line, steps, bytes written and taken, tables, output and variables; the space holds the same bytes, and only the zeros at its end are more. It
-- says nothing of recipes with FRE, for which it is false (`fre_tells`), nothing of a smaller space, which may be 14, and nothing of two runs of
-- which the first ends in 14 (`more_may_help`). Ruled out: a run that tidies its strings only when the space is full and takes a step for it; one
-- that lays strings from the end of the space down.
abbrev pub MoreSpaceSame : Type 0
MoreSpaceSame = (c d : RunCall) → Larger c d → recipe_without_fre (text_of c) ≡ true → HadSpace c → SameNight c d

-- ---- two calls of the library's `quernhem_run`

-- the second is lent a space that is as long or longer, and else the same; what the spaces, the records and the blocks hold before is not asked to be
-- alike
pub record LargerBox (c d : RunBox) : Type 0 where
  pub text : text_in d ≡ text_in c
  pub input : input_in d ≡ input_in c
  pub room : room_in d ≡ room_in c
  pub records : length (records_in d) ≡ length (records_in c)
  pub budget : budget_in d ≡ budget_in c
  pub longer : length (space_in c) ≤ length (space_in d)
  pub small : length (space_in d) ≤ longest_space

-- the box is told neither 'refused' nor 14
pub record BoxHadSpace (c : RunBox) : Type 0 where
  pub taken : outcome_word c ≡ refused_word → ⊥
  pub enough : number_word c ≡ 14 → ⊥

-- the same words, block, output and records, and the same bytes of the space, but for more zeros at its end
pub record SameBox (c d : RunBox) : Type 0 where
  pub answer : answer_words d ≡ answer_words c
  pub block : block_out d ≡ block_out c
  pub room : room_out d ≡ room_out c
  pub space : WithZeros (space_out d) (space_out c)
  pub records : records_out d ≡ records_out c

-- The same of what a box is told: all seven words, the whole block of tables to the last byte, the room for output, and the space but for more zeros
-- at its end. It says nothing of recipes with FRE, and nothing of a smaller space. Ruled out: a block that holds where a string stands counted from
-- the end of the space; an answer that has the free bytes in a word that does not apply.
abbrev pub BoxMoreSpaceSame : Type 0
BoxMoreSpaceSame = (c d : RunBox) → LargerBox c d → recipe_without_fre (text_in c) ≡ true → BoxHadSpace c → SameBox c d
