-- How long a recipe can take, as statements about every call of `run` and of `bound_of`: `Calls` says what a call is. A statement has the proof
-- of its name, in snake case, in `proofs/Bounds.antt`. Above each stand what it says, what it does not say, and two wrong programs that it rules out.
use Rattle.std.specs.Prelude.{◌≡◌, true, List, ℕ, ◌≤◌, Ok, Some}
use Rattle.words.specs.declared.places.LineNumber.{LineNumber}
use Rattle.loader.specs.Loading.{load_of}
use Rattle.bounding.specs.Bounding.{is_bounded, statements_in}
use Rattle.runner.specs.declared.running.Outcome.TheVariants.{Out}
use Rattle.promises.specs.Calls.{RunCall, text_of, budget_of}
use Rattle.bounds.specs.Calls.{BoundCall, recipe_of, BoundsAlways}

-- ---- the report

-- Every call of `bound_of` has an answer that its contract allows, whatever text is passed. It does not say which. Ruled out: a contract that no
-- answer meets; a report that has none for a text that does not load.
abbrev pub BoundsAnswerAlways : Type 0
BoundsAnswerAlways = BoundsAlways

-- ---- the steps of a run

-- a text that loads, whose every named jump goes to a higher line number than its own, and that has no FOR, NEXT, GOSUB, RETURN, WHILE or WEND
-- in a line that reads
pub record Bounded (text : List ℕ) : Type 0 where
  pub loads : load_of text ≡ Ok tt
  pub bounded : is_bounded text ≡ true

-- The steps of a run of a bounded recipe never exceed the number of its statements: at any budget, on any input, with any string space and
-- room for output. It does not say that a run takes so many: it may end sooner, and all branches are counted though a run takes one. It says
-- nothing of other recipes. Ruled out: a run that begins the statements after an IF's part once more when the part is over; a bound that takes a
-- jump to its own line for one onward.
abbrev pub StepsBounded : Type 0
StepsBounded = (c : RunCall) → Bounded (text_of c) → c.answer.steps ≤ statements_in (text_of c)

-- A run of a bounded recipe whose budget is at least the number of its statements is never out of steps. It does not say that it ends well: it may
-- end in an error. Ruled out: a run that counts an implied GOTO as two steps; one that is out as soon as its budget is spent, though
-- nothing stands any more.
abbrev pub BoundedNeverOut : Type 0
BoundedNeverOut = (c : RunCall) (l : LineNumber) → Bounded (text_of c) → statements_in (text_of c) ≤ budget_of c → c.answer.outcome ≡ Out l → ⊥

-- ---- what is reported

-- what a report of so many steps promises of a run of the same text
pub record Kept (n : ℕ) (c : RunCall) : Type 0 where
  pub steps : c.answer.steps ≤ n
  pub ends : (l : LineNumber) → n ≤ budget_of c → c.answer.outcome ≡ Out l → ⊥

-- Of whatever text `bound_of` reports a number of steps, no run of that text takes more, and none with such a budget is out of steps. It does not
-- say when a number is reported. Ruled out: a report that leaves the branches of an IF out of its count; one that counts only
-- the lines.
abbrev pub ReportKept : Type 0
ReportKept = (b : BoundCall) (n : ℕ) → b.answer ≡ Ok (Some n) → (c : RunCall) → text_of c ≡ recipe_of b → Kept n c
