-- What the program writes: what the recipe printed, and then one line: outcome word (ended, stopped, out, error, refused), number, line
-- (if refused, place), steps, parted by tabs, ended by byte 10.
use Rattle.std.specs.Prelude.{◌≡◌, cond, List, [], ◌∷◌, ◌++◌, ℕ, take}
use Rattle.console.specs.Counts.{IsPrefixLen}
use Rattle.whole.specs.Bytes.{bytes}
use Rattle.whole.specs.Texts.{held}
use Rattle.console.specs.Lines.{line}
use Rattle.runner.specs.Run.{Ran, number_in, line_in, place_in, is_refused}
use Rattle.runner.specs.declared.running.Outcome.{Outcome}
use Rattle.runner.specs.declared.running.Outcome.TheVariants.{Ended, Stopped, Out, Failed, Refused}
use Rattle.console.specs.declared.answers.Answer.{Answer}

abbrev pub word_of : Outcome → List ℕ
word_of Ended = bytes "ended"
word_of (Stopped l) = bytes "stopped"
word_of (Out l) = bytes "out"
word_of (Failed e l) = bytes "error"
word_of (Refused r p) = bytes "refused"

-- the line, or the place of a refusal; 0 where neither applies
abbrev pub standing_in : Outcome → ℕ
standing_in o = cond (is_refused o) (place_in o) (line_in o)

abbrev pub last_line : Outcome → ℕ → List ℕ
last_line o steps = line (word_of o) (number_in o ∷ standing_in o ∷ steps ∷ [])

-- what is to be written of a run: the front of the room is what was printed, and the line
pub record Tells (ran : Ran) (a : Answer) (room : List ℕ) : Type 0 where
  pub within : IsPrefixLen a.written room
  pub printed : take a.written room ≡ ran.machine.output
  pub ending : a.line ≡ held (last_line ran.ending ran.machine.steps)

-- the bytes that are written of a run
abbrev pub told_of : Ran → List ℕ
told_of ran = ran.machine.output ++ last_line ran.ending ran.machine.steps
