-- Unfinished strings: how many there ever are at once, and which bytes are live.
use Rattle.std.specs.Prelude.{◌≡◌, List, [], ◌∷◌, ℕ, ◌+◌, ◌≤◌, length}
use Rattle.words.specs.Names.{Telling}
use Rattle.grammar.specs.Trees.{Formula, Arguments}
use Rattle.grammar.specs.declared.wanting.Want.{Want}
use Rattle.variables.specs.Strings.{Value, whole, text, Room, Outcome, value, fault}
use Rattle.variables.specs.Variables.{StringVariable, Variables, bytes_of, string_bytes, set_string}
use Rattle.operators.specs.Values.{Taken, taken, stopped, value_of, values_of}
use Rattle.machine.specs.Machine.{Machine, Lent, room_of}
use Rattle.runner.specs.Run.{run_of}

-- ---- how many

-- what is allowed, and the most that there can be
abbrev pub allowed_unfinished : ℕ
allowed_unfinished = 32

abbrev pub most_unfinished : ℕ
most_unfinished = 28

pub record Few (highest : ℕ) : Type 0 where
  pub allowed : highest ≤ allowed_unfinished
  pub most : highest ≤ most_unfinished

-- No run of any recipe ever has more than 28, and so never more than 32, unfinished strings at once: whatever its text, whether the
-- check passes it or not, and whatever its input, string space, room for output and budget, and whatever it comes to.
abbrev pub FewUnfinished : Type 0
FewUnfinished = (text input : List ℕ) (lent : Lent) (budget : ℕ) → Few (run_of text input lent budget).machine.highest

-- No smaller number would do: some run has 28.
abbrev pub MostIsReached : Type 0
MostIsReached =
    (n : ℕ) → ((text input : List ℕ) (lent : Lent) (budget : ℕ) → (run_of text input lent budget).machine.highest ≤ n)
    → most_unfinished ≤ n

-- ---- which bytes

-- the bytes that some values have in the string space, and how many strings they are; a whole number is none
abbrev pub bytes_held : Value → ℕ
bytes_held (whole w) = 0
bytes_held (text b) = length b

abbrev pub strings_held : Value → ℕ
strings_held (whole w) = 0
strings_held (text b) = 1

unfoldable pub all_bytes : List Value → ℕ
all_bytes [] = 0
all_bytes (v ∷ vs) = bytes_held v + all_bytes vs

unfoldable pub all_strings : List Value → ℕ
all_strings [] = 0
all_strings (v ∷ vs) = strings_held v + all_strings vs

-- what is live and what is unfinished then is what was before, and so many bytes and strings more; the space stays as large
pub record Grown (before after : Room) (bytes strings : ℕ) : Type 0 where
  pub limit : after.limit ≡ before.limit
  pub live : after.live ≡ before.live + bytes
  pub unfinished : after.unfinished ≡ before.unfinished + strings

abbrev pub ByValue : Room → Outcome → Type 0
ByValue before (value v after) = Grown before after (bytes_held v) (strings_held v)
ByValue before (fault e after) = Unit {0}

abbrev pub ByValues : Room → Taken → Type 0
ByValues before (taken vs after) = Grown before after (all_bytes vs) (all_strings vs)
ByValues before (stopped e after) = Unit {0}

-- Live bytes are the lengths of all variables and unfinished strings, exactly. A statement begins with the variables' bytes alone and
-- none unfinished. A formula that comes to a value adds that value and nothing else, whatever was live when it was begun; so do a
-- function's arguments, one by one, and so inside a formula the variables and the values that wait are live, and nothing else.
-- An assignment adds the new string's bytes and lets the old one's go.
pub record LiveIsExactFacts : Type 0 where
  pub statements : (m : Machine) → ((room_of m).live ≡ string_bytes m.variables.strings) × ((room_of m).unfinished ≡ 0)
  pub formulas : (f : Formula) (vars : Variables) (before : Room) → ByValue before (value_of f vars before)
  pub arguments : (a : Arguments) (ws : List Want) (vars : Variables) (before : Room) → ByValues before (values_of a ws vars before)
  pub assignments : (vs : List StringVariable) (name : Telling) (b : List ℕ)
      → string_bytes (set_string vs name b) + length (bytes_of vs name) ≡ string_bytes vs + length b

abbrev pub LiveIsExact : Type 0
LiveIsExact = LiveIsExactFacts
