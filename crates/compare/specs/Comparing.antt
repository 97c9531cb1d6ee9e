-- What comparing two texts answers, and what it writes.
use Rattle.loader.specs.declared.refusals.RefusedAt.{RefusedAt}
use Rattle.std.specs.Prelude.{cond, List, ◌++◌, ℕ, leb, length, drop, Err, Ok, Result}
use Rattle.words.specs.Places.{place}
use Rattle.loader.specs.Loading.{load_of}
use Rattle.loader.specs.declared.refusals.Refusal.TheVariants.{NoRoom}
use Rattle.compare.specs.Records.{report_of}
use Rattle.compare.specs.declared.comparing.Rejected.{Rejected}
use Rattle.compare.specs.declared.comparing.Rejected.TheVariants.{Old, New, Room}

-- the room is too short
abbrev pub no_room : Rejected
no_room = Room (record { refusal = NoRoom; place = place 0 })

-- the whole answer, where there is room for it
abbrev pub within : List ℕ → ℕ → Result ℕ Rejected
within report room = cond (leb (length report) room) (Ok (length report)) (Err no_room)

-- a text that doesn't load is refused, the old looked at first; then 110 if the room is too short for the whole answer
abbrev pub by_loading : Result (Unit {0}) RefusedAt → Result (Unit {0}) RefusedAt → (Unit {0} → Result ℕ Rejected) → Result ℕ Rejected
by_loading (Err e) new fine = Err (Old e)
by_loading (Ok _) (Err e) fine = Err (New e)
by_loading (Ok _) (Ok _) fine = fine tt

unfoldable pub compared_of : List ℕ → List ℕ → ℕ → Result ℕ Rejected
compared_of old new room = by_loading (load_of old) (load_of new) (λ _. within (report_of old new) room)

-- what the room holds after an answer: the records at its front; as it was if refused
abbrev pub written : List ℕ → List ℕ → List ℕ → Result ℕ Rejected → List ℕ
written old new out (Ok count) = report_of old new ++ drop count out
written old new out (Err why) = out

unfoldable pub out_after : List ℕ → List ℕ → List ℕ → List ℕ
out_after old new out = written old new out (compared_of old new (length out))
