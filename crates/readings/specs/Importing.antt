-- What importing a file answers, and what it writes.
use Rattle.loader.specs.declared.refusals.RefusedAt.{RefusedAt}
use Rattle.loader.specs.Refusals.{refused_at}
use Rattle.std.specs.Prelude.{cond, List, ◌++◌, ℕ, ◌-◌, ◌%◌, leb, eqb, length, drop, Err, Ok, Result}
use Rattle.words.specs.Places.{place}
use Rattle.loader.specs.declared.refusals.Refusal.TheVariants.{ShortGroup, NoRoom}
use Rattle.readings.specs.Lines.{lines_of}

-- how many bytes stand in a last group that is short
abbrev pub short_of : List ℕ → ℕ
short_of file = length file % 4

-- 108 at the last short group; after it 110 for too little room
unfoldable pub imported_of : List ℕ → ℕ → Result ℕ RefusedAt
imported_of file room =
    cond (eqb (short_of file) 0)
    (cond (leb (length (lines_of file)) room) (Ok (length (lines_of file))) (refused_at NoRoom (place 0)))
    (refused_at ShortGroup (place (length file - short_of file)))

-- what the room holds after an answer: the lines at its front; as it was if refused
abbrev pub written : List ℕ → List ℕ → Result ℕ RefusedAt → List ℕ
written file out (Ok count) = lines_of file ++ drop count out
written file out (Err e) = out

unfoldable pub out_after : List ℕ → List ℕ → List ℕ
out_after file out = written file out (imported_of file (length out))
