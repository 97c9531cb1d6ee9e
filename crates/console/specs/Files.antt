-- What is taken of a file.
use Rattle.std.specs.Prelude.{◌≡◌, ℕ, ◌<◌, List, ◌++◌, length, take, Option, None, Some, Result, IfOk}
use Rattle.console.specs.Counts.{IsPrefixLen}
use Rattle.console.specs.declared.files.Untaken.{Untaken}

-- a file that was read whole has its bytes at the front of what is lent
abbrev pub Fronted : Result ℕ Untaken → List ℕ → Type 0
Fronted taken bytes = IfOk taken (λ n. IsPrefixLen n bytes)

-- of a reader's bytes, where they are known: all; or as many as fill what is lent, and there are more
abbrev pub IsTakenOf : Option ℕ → Option (List ℕ) → List ℕ → Type 0
IsTakenOf taken None bytes = Unit {0}
IsTakenOf (Some n) (Some known) bytes = known ≡ take n bytes
IsTakenOf None (Some known) bytes = (rest : List ℕ) × (known ≡ bytes ++ rest) × (0 < length rest)
