-- Bridge: from which byte on the buffer is cleared, as the code does it.
use Rattle.loader.specs.declared.refusals.RefusedAt.{RefusedAt}
use Rattle.std.specs.Prelude.{ℕ, Err, Ok, Result}

-- behind the n bytes of a text that loads, and on a refusal from the first byte on
abbrev pub zeros_from : Result (Unit {0}) RefusedAt → ℕ → ℕ
zeros_from (Ok _) n = n
zeros_from (Err e) n = 0
