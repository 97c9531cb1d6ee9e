-- The customer's demands, as statements about every call of the code: `Calls` says what a call is. A statement has the proof of its name,
-- in snake case, in `proofs/Demands.antt`. Above each stand what it says, what it does not say, and two wrong programs that it rules out.
use Rattle.checker.specs.declared.checking.Fault.{Fault}
use Rattle.loader.specs.Refusals.{refused_at}
use Rattle.std.specs.Prelude.{◌≡◌, true, List, ◌↔◌, ℕ, ◌+◌, ◌≤◌, ◌<◌, length, Ok, Result}
use Rattle.whole.specs.declared.errors.Error.TheVariants.{OutOfStringSpace}
use Rattle.words.specs.Places.{place, line_number}
use Rattle.loader.specs.Lines.{lines_of}
use Rattle.loader.specs.Loading.{load_of}
use Rattle.loader.specs.Refusals.{refusal_number}
use Rattle.loader.specs.declared.refusals.Refusal.{Refusal}
use Rattle.space.specs.declared.offsets.Offset.{Offset}
use Rattle.variables.specs.Strings.{Room, fault, make, longest_space}
use Rattle.variables.specs.Variables.{string_bytes}
use Rattle.machine.specs.Machine.{Lent, most_records}
use Rattle.checker.specs.Check.{verdict_number, verdict_line, verdict_place}
use Rattle.runner.specs.Run as run
use Rattle.runner.specs.Run.{run_of, number_in, line_in, place_in, is_refused}
use Rattle.asking.specs.declared.questions.Asked.TheVariants.{Text}
use Rattle.runner.specs.declared.running.Outcome.{Outcome}
use Rattle.promises.specs.Calls.{
  RunCall,
  RunsAlways,
  text_of,
  input_of,
  space_before,
  space_after,
  room_before,
  room_after,
  stack_before,
  stack_after,
  lent_of,
  budget_of,
  tables_before,
  CheckCall,
  ChecksAlways,
  recipe_of,
  AskCall,
  AsksAlways,
  space_handed,
}
use Rattle.promises.specs.Faults.{AllFaultless, NumberedFault}
use Rattle.promises.specs.Passing.{ends_well}
use Rattle.promises.specs.StringSpace.{AsksTooMuch}
use Rattle.promises.specs.Unfinished.{Few}

-- what document 01 says of a run on what was passed
abbrev pub ran_of : RunCall → run.Ran
ran_of c = run_of (text_of c) (input_of c) (lent_of c) (budget_of c)

-- ---- Demand 1: whatever bytes are given, the runner answers and stops within its budget; what it will not take it refuses by a listed
-- ---- number and place, and then nothing lent has changed

-- Every call of `run`, `check_recipe` and `ask` has an answer that its contract allows, whatever is passed. That the code ends with such
-- an answer is the toolchain's own theorem of each function; this says that the contracts can be met, and so that the statements below
-- speak of something. It does not say how long a call takes. Ruled out: a contract that no answer meets, under which any program passes;
-- a run that has no answer for a space of no bytes.
pub record AnswersAlwaysFacts : Type 0 where
  pub run : RunsAlways
  pub check : ChecksAlways
  pub ask : AsksAlways

abbrev pub AnswersAlways : Type 0
AnswersAlways = AnswersAlwaysFacts

-- The steps that a run answers never exceed its budget. It does not say that a recipe ends: it may be out of steps. Ruled out: a run that
-- looks at the budget only where a line begins; one that counts an IF and its branch's first statement after a single look.
abbrev pub StopsWithinBudget : Type 0
StopsWithinBudget = (c : RunCall) → c.answer.steps ≤ budget_of c

-- loading refuses a text with a number, at a place
pub record LoadRefused (text : List ℕ) (number at : ℕ) : Type 0 where
  pub refusal : Refusal
  pub numbered : refusal_number refusal ≡ number
  pub loads : load_of text ≡ refused_at refusal (place at)

-- a string space over 16,384 bytes is 106 at place 0, whatever the records and the text; else more than 256 records are 107 at place 0; else
-- loading decides, by 100 to 105 and a place
pub data RefusedFor (text : List ℕ) (lent : Lent) : ℕ → ℕ → Type 0 where
  long_space : longest_space < lent.space → RefusedFor text lent 106 0
  long_stack : lent.space ≤ longest_space → most_records < lent.records → RefusedFor text lent 107 0
  not_loaded : {number at : ℕ} → lent.space ≤ longest_space → lent.records ≤ most_records → LoadRefused text number at → RefusedFor text lent number at

-- a run was refused with a number, at a place
pub record WasRefused (o : Outcome) (number at : ℕ) : Type 0 where
  pub refused : is_refused o ≡ true
  pub numbered : number_in o ≡ number
  pub placed : place_in o ≡ at

-- A run is refused with a number and a place if and only if its string space, its records or its text are refused so. It does not say what a text is
-- refused for: that is `load_of`. Ruled out: a run that refuses a space of exactly 16,384 bytes, or 256 records; one that runs the lines before the first
-- bad one; one that says 105 where it means 106.
abbrev pub RefusesExactly : Type 0
RefusesExactly =
    (c : RunCall) (number at : ℕ) → WasRefused c.answer.outcome number at ↔ RefusedFor (text_of c) (lent_of c) number at

-- the counts are 0, and the tables, the string space, the room for output and the records are as they were lent, to the last byte
pub record Unchanged (c : RunCall) : Type 0 where
  pub steps : c.answer.steps ≡ 0
  pub written : c.answer.written ≡ 0
  pub taken : c.answer.taken ≡ 0
  pub tables : c.answer.tables ≡ tables_before c
  pub space : space_after c ≡ space_before c
  pub room : room_after c ≡ room_before c
  pub stack : stack_after c ≡ stack_before c

-- A refusal changes nothing that was lent. It does not say so of other outcomes: a run that fails has done what it did before. Ruled out: a
-- run that clears the string space and then loads; one that wipes the records where it refuses.
abbrev pub RefusalsChangeNothing : Type 0
RefusalsChangeNothing = (c : RunCall) → is_refused c.answer.outcome ≡ true → Unchanged c

pub record Within (c : RunCall) : Type 0 where
  pub written : c.answer.written ≤ length (room_before c)
  pub taken : c.answer.taken ≤ length (input_of c)
  pub strings : string_bytes (ran_of c).machine.variables.strings ≤ length (space_before c)
  pub space : length (space_after c) ≡ length (space_before c)
  pub room : length (room_after c) ≡ length (room_before c)
  pub stack : length (stack_after c) ≡ length (stack_before c)

-- What is written never exceeds the room, what is taken never exceeds the input, the bytes of all string variables never exceed the string
-- space, and what was lent is as long after as before. Ruled out: a run that counts an item that had no room among what was written; one
-- that counts an end of line that the last line of input lacks among what was taken.
abbrev pub StaysWithinMemory : Type 0
StaysWithinMemory = (c : RunCall) → Within c

-- A string that is asked for is answered as a part of the space handed in that lies in it, whatever the tables hold. It does not say that
-- tables and space are those of one run: that is the host's affair. Ruled out: an answer that trusts the lengths in tables that no run made;
-- one that answers a string as its part of a space that was handed in too short.
abbrev pub AskedPartsLieInside : Type 0
AskedPartsLieInside = (c : AskCall) (from : Offset) (len : ℕ) → c.answer ≡ Ok (Text from len) → from.0 + len ≤ length (space_handed c)

-- ---- Demand 2: every run does what document 01 says; 14 comes exactly when the bytes of all live strings, unfinished ones included, plus
-- ---- those asked for exceed the space lent; the check refuses a recipe exactly for the faults listed

pub record AsDefined (c : RunCall) : Type 0 where
  pub answer : c.answer ≡ run.answer_of (ran_of c) (tables_before c)
  pub space : space_after c ≡ run.space_after (ran_of c) (space_before c)
  pub room : room_after c ≡ run.room_after (ran_of c) (room_before c)
  pub stack : stack_after c ≡ run.stack_after (ran_of c) (stack_before c)

-- The answer, the string space, the room for output and the records are those of `run_of`, which says document 01's chapters 'Running' and 'String space'
-- over lists and trees. That `run_of` says what the paper means is for its reader to judge; `Starred` has it compute the paper's examples.
-- Ruled out: a run that always says error 7; one that prints nothing; and one that does the first statement and says 'ended'.
abbrev pub RunsAsDefined : Type 0
RunsAsDefined = (c : RunCall) → AsDefined c

-- A string of some bytes is refused with 14 if and only if the live bytes and these exceed the space. What is live is the next statement's.
-- Ruled out: one that refuses what just fits; one that lets a string of no bytes into an overfull space.
abbrev pub MadeExactly : Type 0
MadeExactly = (b : List ℕ) (room : Room) → (make b room ≡ fault OutOfStringSpace room) ↔ (room.limit < room.live + length b)

-- A run ends in 14 at a line if and only if it begins a statement of that line that asks for bytes which, with the bytes of all string
-- variables and of all unfinished strings at that moment, exceed the space lent: `AsksTooMuch` spells it out, formula by formula. So 14
-- comes from nowhere else, and no other outcome comes where that much is asked for. It says nothing of other errors. Ruled out: a run that
-- lets go of A$ before its right side is done, and so has `A$=A$+A$` do with 19 bytes; one that tidies variables but not unfinished strings,
-- and so gives 14 where there is room.
abbrev pub FourteenExactly : Type 0
FourteenExactly =
    (c : RunCall) (line : ℕ)
    → ((number_in c.answer.outcome ≡ 14) × (line_in c.answer.outcome ≡ line))
    ↔ AsksTooMuch (text_of c) (input_of c) (lent_of c) (budget_of c) (line_number line)

-- a verdict's number, line and place
pub record Tells (v : Result (Unit {0}) Fault) (number line at : ℕ) : Type 0 where
  pub numbered : verdict_number v ≡ number
  pub lined : verdict_line v ≡ line
  pub placed : verdict_place v ≡ at

-- the numbers of errors that the check gives are below those of refusals
abbrev pub first_refusal : ℕ
first_refusal = 100

pub record ChecksExactlyFacts (c : CheckCall) : Type 0 where
  pub faulty : (number line : ℕ) → 0 < number → number < first_refusal
      → Tells c.answer number line 0 ↔ ((load_of (recipe_of c) ≡ Ok tt) × NumberedFault (recipe_of c) number line)
  pub refused : (number at : ℕ) → first_refusal ≤ number → Tells c.answer number 0 at ↔ LoadRefused (recipe_of c) number at
  pub passed : Tells c.answer 0 0 0 ↔ ((load_of (recipe_of c) ≡ Ok tt) × AllFaultless (lines_of (recipe_of c)) (lines_of (recipe_of c)))

-- The check gives an error and a line if and only if the recipe loads, that line has that fault and no earlier line has one (`Faults`: 2, then
-- 16, then 13, then 8); it refuses if and only if loading does, and passes if and only if there is no fault at all. It says nothing of runs:
-- that is demand 3. Ruled out: a check that always refuses; one that passes everything; one that looks for types only in the THEN branch.
abbrev pub ChecksExactly : Type 0
ChecksExactly = (c : CheckCall) → ChecksExactlyFacts c

-- ---- Demand 3: a recipe that the check has passed never ends in 2, 8, 13 or 16, with any input, string space, output room and step budget
-- ---- that the runner takes; and no run of any loaded recipe ever has more than 32 unfinished strings

-- A recipe that `check_recipe` passed never ends in 2, 8, 13 or 16 when `run` runs it, whatever else is passed (`Passing`). It says nothing of
-- other errors, and nothing of a recipe that was not passed, which may run well. Ruled out: a check that passes everything; a check that
-- takes a line after ELSE for present.
abbrev pub PassedRecipesEndWell : Type 0
PassedRecipesEndWell =
    (k : CheckCall) (c : RunCall) → recipe_of k ≡ text_of c → verdict_number k.answer ≡ 0 → ends_well c.answer.outcome ≡ true

-- The most strings that were ever unfinished at once in a run of any text are at most 32, and even at most 28 (`Unfinished`). The count is the
-- definition's: the code keeps none and no table of them, so none can run out. Ruled out: a definition in which an operator keeps its operands
-- after its result is made; one in which parentheses may nest 9 deep.
abbrev pub FewAtOnce : Type 0
FewAtOnce = (c : RunCall) → Few (ran_of c).machine.highest
