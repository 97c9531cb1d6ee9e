-- The string space, as a count: live bytes are the lengths of all variables and unfinished strings.
use Rattle.std.specs.Prelude.{cond, List, [], ◌∷◌, ℕ, suc, ◌+◌, ◌-◌, max, ltb, length}
use Rattle.whole.specs.declared.errors.Error.{Error}
use Rattle.whole.specs.declared.errors.Error.TheVariants.{OutOfStringSpace, StringTooLong}
use Rattle.whole.specs.Texts.{longest_string}

-- a whole number, by its word, or a text
pub data Value : Type 0 where
  whole : ℕ → Value
  text : List ℕ → Value

-- a string space has at most 16,384 bytes
abbrev pub longest_space : ℕ
longest_space = 16384

-- the bytes lent, those that are live, how many strings are unfinished, and the most that ever were
pub record Room : Type 0 where
  pub limit : ℕ
  pub live : ℕ
  pub unfinished : ℕ
  pub highest : ℕ

-- what working out comes to: a value, or the error that ends the run
pub data Outcome : Type 0 where
  value : Value → Room → Outcome
  fault : Error → Room → Outcome

abbrev pub then : Outcome → (Value → Room → Outcome) → Outcome
then (value v room) go = go v room
then (fault e room) go = fault e room

-- a string of so many bytes is made
abbrev pub with_string : ℕ → Room → Room
with_string n room = record {
  limit = room.limit;
  live = room.live + n;
  unfinished = suc room.unfinished;
  highest = max room.highest (suc room.unfinished);
}

-- 14 exactly when live bytes plus asked bytes exceed the space
unfoldable pub make : List ℕ → Room → Outcome
make bytes room =
    cond (ltb room.limit (room.live + length bytes)) (fault OutOfStringSpace room) (value (text bytes) (with_string (length bytes) room))

-- a string is let go, and its room is used again
unfoldable pub let_go : Value → Room → Room
let_go (whole w) room = room
let_go (text bytes) room = record {
  limit = room.limit;
  live = room.live - length bytes;
  unfinished = room.unfinished - 1;
  highest = room.highest;
}

unfoldable pub let_all_go : List Value → Room → Room
let_all_go [] room = room
let_all_go (v ∷ vs) room = let_all_go vs (let_go v room)

-- an operator or function makes its result while its operands are still live, then lets them go; 15 is tested before 14
unfoldable pub produced : List ℕ → List Value → Room → Outcome
produced bytes operands room =
    cond (ltb longest_string (length bytes)) (fault StringTooLong room) (then (make bytes room) (λ v after. value v (let_all_go operands after)))
