-- What a program writes: the front of its room, and a line after it.
use Rattle.std.specs.Prelude.{◌≡◌, List, ◌++◌, ℕ, take}
use Rattle.console.specs.Counts.{IsPrefixLen}
use Rattle.console.specs.declared.answers.Answer.{Answer}

-- what is written of an answer, with the room as it is then, are these bytes
pub record Tells (told : List ℕ) (a : Answer) (room : List ℕ) : Type 0 where
  pub within : IsPrefixLen a.written room
  pub written : take a.written room ++ take a.line.len a.line.bytes ≡ told
