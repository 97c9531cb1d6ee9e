-- Bridge: how the code's tables and the lent space hold variables and values.
-- The contracts of functions that crates use among themselves cite it; no demand and no promise of run, check_recipe or ask rests on it.
use Rattle.std.specs.Prelude.{◌≡◌, Bool, true, false, cond, List, [], ◌∷◌, ℕ, ◌+◌, ◌-◌, ◌*◌, ◌≤◌, ◌<◌, leb, length, get_or, set, take, drop, replicate, Err, None, Ok, Option, Result, Some}
use Rattle.words.specs.Names.{Telling, name_width, telling, alike, entry_of}
use Rattle.variables.specs.Strings.{whole, text, Room, Outcome, value, fault}
use Rattle.variables.specs.Tables.{names_long, name_bytes, names_from, names_in, numbers_in, slot_in, sum_of}
use Rattle.variables.specs.Variables.{NumberVariable, StringVariable, Variables, word_of, bytes_of, most_variables}
use Rattle.whole.specs.declared.errors.Error.{Error}
use Rattle.whole.specs.declared.errors.Error.TheVariants.{TypeMismatch}
use Rattle.whole.specs.Texts.{longest_string}
use Rattle.words.specs.declared.symbols.Scanned.{Scanned}
use Rattle.space.specs.Moves.{copied, moved}
use Rattle.variables.specs.declared.tables.Numbers.{Numbers}
use Rattle.variables.specs.declared.tables.Strings.{Strings}
use Rattle.variables.specs.declared.tables.Tables.{Tables}
use Rattle.space.specs.declared.offsets.Offset.{Offset}
use Rattle.variables.specs.declared.values.Worked.{Worked}
use Rattle.variables.specs.declared.values.Worked.TheVariants as worked

-- ---- the tables

-- the strings stand joined at the front of the space
unfoldable pub strings_in : List Telling → List ℕ → List ℕ → List StringVariable
strings_in [] ls space = []
strings_in (n ∷ ns) [] space = []
strings_in (n ∷ ns) (l ∷ ls) space = record { name = n; bytes = take l space } ∷ strings_in ns ls (drop l space)

-- variables that the tables and the space hold: every name reads the same
pub record Looked (vars : Variables) (tables : Tables) (space : List ℕ) : Type 0 where
  pub word : (name : Telling) → word_of vars.numbers name ≡ word_of (numbers_in (names_in tables.numbers.names) tables.numbers.words) name
  pub bytes : (name : Telling) → bytes_of vars.strings name ≡ bytes_of (strings_in (names_in tables.strings.names) tables.strings.lengths space) name

-- an entry of a table of so many
abbrev pub SlotBelow : ℕ → Option ℕ → Type 0
SlotBelow n (Some i) = i < n
SlotBelow n None = Unit {0}

-- what stands in it
abbrev pub word_at : Option ℕ → List ℕ → ℕ
word_at (Some i) words = get_or words i 0
word_at None words = 0

abbrev pub bytes_at : Option ℕ → List ℕ → List ℕ → List ℕ
bytes_at (Some i) lengths space = take (get_or lengths i 0) (drop (sum_of (take i lengths)) space)
bytes_at None lengths space = []

-- ---- an answer over the space after, of which `used` bytes were live when it was asked

-- a room as the code has it: the space's length is the limit, and so many bytes are live
pub record Held (room : Room) (space : List ℕ) (live : ℕ) : Type 0 where
  pub limit : room.limit ≡ length space
  pub lives : room.live ≡ live

-- it agrees with an outcome: the same error; the same number, or the same bytes from `used` on, and the room that is left
abbrev pub Agrees : Result Worked Error → List ℕ → ℕ → Outcome → Type 0
Agrees (Ok (worked.Whole w t)) space used (value (whole v) room) = (w ≡ v) × Held room space used
Agrees (Ok (worked.Whole w t)) space used (value (text b) room) = ⊥
Agrees (Ok (worked.Whole w t)) space used (fault e room) = ⊥
Agrees (Ok (worked.Text n t)) space used (value (whole v) room) = ⊥
Agrees (Ok (worked.Text n t)) space used (value (text b) room) =
    (take n (drop used space) ≡ b) × ((n ≡ length b) × Held room space (used + n))
Agrees (Ok (worked.Text n t)) space used (fault e room) = ⊥
Agrees (Err e) space used (value v room) = ⊥
Agrees (Err e) space used (fault f room) = e ≡ f

-- ---- what small functions make

abbrev pub answered_as : Result ℕ Error → Scanned → Result Worked Error
answered_as (Ok w) t = Ok (worked.Whole w t)
answered_as (Err e) t = Err e

-- where it is not of the type that is wanted: its own error, or 13
abbrev pub mismatch_of : Result Worked Error → Error
mismatch_of (Ok (worked.Whole w t)) = TypeMismatch
mismatch_of (Ok (worked.Text n t)) = TypeMismatch
mismatch_of (Err e) = e

abbrev pub text_length : Result Worked Error → ℕ
text_length (Ok (worked.Whole w t)) = 0
text_length (Ok (worked.Text n t)) = n
text_length (Err e) = 0

-- an answer that goes on with a token, if it goes on
abbrev pub GoesOn : Result Worked Error → Scanned → Type 0
GoesOn (Ok (worked.Whole w t)) u = t ≡ u
GoesOn (Ok (worked.Text n t)) u = t ≡ u
GoesOn (Err e) u = Unit {0}

-- ---- what a function that may write from `used` on leaves

-- the space is as long as it was, what stands below `used` is kept, and the answer's text stands above it
pub record Framed (before : List ℕ) (used : ℕ) (r : Result Worked Error) (after : List ℕ) : Type 0 where
  pub long : length after ≡ length before
  pub kept : take used after ≡ take used before
  pub fits : used + text_length r ≤ length after
  pub short : text_length r ≤ longest_string

-- and the answer agrees with what is made of any room that holds so many live bytes
pub record Made (before : List ℕ) (used live : ℕ) (outcome : Room → Outcome) (ahead : Scanned) (r : Result Worked Error) (after : List ℕ) : Type 0 where
  pub framed : Framed before used r after
  pub agrees : (room : Room) → Held room before live → Agrees r after used (outcome room)
  pub goes : GoesOn r ahead

-- ---- tables and what is stored in them

-- the variables that a table holds, in order of first assignment
abbrev pub numbers_held : Numbers → List NumberVariable
numbers_held n = numbers_in (names_from n.count n.names) n.words

abbrev pub strings_held : Strings → List ℕ → List StringVariable
strings_held t space = strings_in (names_from t.count t.names) t.lengths space

-- a name all of which tells
abbrev pub Tells : Telling → Type 0
Tells name = telling name ≡ name

-- none of some names is one variable's with a name
pub data Absent (name : Telling) : List Telling → Type 0 where
  none : Absent name []
  also : {n : Telling} {ns : List Telling} → alike n name ≡ false → Absent name ns → Absent name (n ∷ ns)

-- no two of them are one variable's
pub data Apart : List Telling → Type 0 where
  empty : Apart []
  joining : {n : Telling} {ns : List Telling} → Absent n ns → Apart ns → Apart (n ∷ ns)

-- the bytes of an entry after its name, and unused entries, are zeros
pub record TidyNumbers (n : Numbers) : Type 0 where
  pub few : n.count ≤ most_variables
  pub named : length n.names ≡ names_long
  pub worded : length n.words ≡ most_variables
  pub filled : name_bytes (names_from n.count n.names) ≡ take (name_width * n.count) n.names
  pub names_blank : drop (name_width * n.count) n.names ≡ replicate (names_long - name_width * n.count) 0
  pub words_blank : drop n.count n.words ≡ replicate (most_variables - n.count) 0
  pub apart : Apart (names_from n.count n.names)

pub record TidyStrings (t : Strings) : Type 0 where
  pub few : t.count ≤ most_variables
  pub named : length t.names ≡ names_long
  pub lengthy : length t.lengths ≡ most_variables
  pub filled : name_bytes (names_from t.count t.names) ≡ take (name_width * t.count) t.names
  pub names_blank : drop (name_width * t.count) t.names ≡ replicate (names_long - name_width * t.count) 0
  pub lengths_blank : drop t.count t.lengths ≡ replicate (most_variables - t.count) 0

-- the i-th name of a table
abbrev pub name_at : List ℕ → ℕ → Telling
name_at names i = telling (drop (name_width * i) names)

-- a name in a table
abbrev pub with_name : List ℕ → ℕ → Telling → List ℕ
with_name names i name = copied names (name_width * i) (entry_of name)

-- arrays and a count, as a table
abbrev pub numbers_of : List ℕ → List ℕ → ℕ → Numbers
numbers_of names words count = record { names = names; words = words; count = count }

abbrev pub strings_of : List ℕ → List ℕ → ℕ → Strings
strings_of names lengths count = record { names = names; lengths = lengths; count = count }

-- what storing a number leaves: whether there was room for it, its entry, and the table; where there was none nothing changes
pub record NumberStored : Type 0 where
  pub ok : Bool
  pub slot : ℕ
  pub numbers : Numbers

abbrev pub numbers_left : Option ℕ → Numbers → NumberStored
numbers_left (Some i) n = record { ok = true; slot = i; numbers = n }
numbers_left None n = record { ok = false; slot = n.count; numbers = n }

abbrev pub number_appended : Numbers → Telling → ℕ → NumberStored
number_appended n name w =
    cond (leb most_variables n.count) (record { ok = false; slot = n.count; numbers = n })
    (record { ok = true; slot = n.count; numbers = numbers_of (with_name n.names n.count name) (set n.words n.count w) (n.count + 1) })

abbrev pub number_replaced : Numbers → ℕ → ℕ → NumberStored
number_replaced n i w = record { ok = true; slot = i; numbers = numbers_of n.names (set n.words i w) n.count }

abbrev pub number_into : Option ℕ → Numbers → Telling → ℕ → NumberStored
number_into None n name w = number_appended n name w
number_into (Some i) n name w = cond (leb n.count i) (number_appended n name w) (number_replaced n i w)

abbrev pub number_stored : Numbers → Telling → ℕ → NumberStored
number_stored n name w = number_into (slot_in n.names name) n name w

-- and a string: the table, and where all strings' bytes end
pub record StringStored : Type 0 where
  pub ok : Bool
  pub strings : Strings
  pub used : ℕ

abbrev pub strings_left : Option Offset → ℕ → Strings → StringStored
strings_left (Some end) used t = record { ok = true; strings = t; used = end.0 }
strings_left None used t = record { ok = false; strings = t; used = used }

abbrev pub string_appended : Strings → ℕ → Telling → ℕ → StringStored
string_appended t used name len =
    cond (leb most_variables t.count) (record { ok = false; strings = t; used = used })
    (record { ok = true; strings = strings_of (with_name t.names t.count name) (set t.lengths t.count len) (t.count + 1); used = used + len })

abbrev pub string_replaced : Strings → ℕ → ℕ → ℕ → StringStored
string_replaced t used i len =
    record { ok = true; strings = strings_of t.names (set t.lengths i len) t.count; used = used - get_or t.lengths i 0 + len }

abbrev pub string_into : Option ℕ → Strings → ℕ → Telling → ℕ → StringStored
string_into None t used name len = string_appended t used name len
string_into (Some i) t used name len = cond (leb t.count i) (string_appended t used name len) (string_replaced t used i len)

abbrev pub string_stored : Strings → ℕ → Telling → ℕ → StringStored
string_stored t used name len = string_into (slot_in t.names name) t used name len

-- the space then: the new bytes take the old ones' place, and the later strings' bytes move
abbrev pub bytes_replaced : ℕ → ℕ → ℕ → List ℕ → ℕ → List ℕ
bytes_replaced start old used space len =
    copied (moved space (start + old) (start + len) (used - (start + old))) start (take len (drop used space))

abbrev pub space_replaced : List ℕ → ℕ → ℕ → List ℕ → ℕ → List ℕ
space_replaced lengths used i space len = bytes_replaced (sum_of (take i lengths)) (get_or lengths i 0) used space len

abbrev pub space_into : Option ℕ → Strings → ℕ → List ℕ → ℕ → List ℕ
space_into None t used space len = space
space_into (Some i) t used space len = cond (leb t.count i) space (space_replaced t.lengths used i space len)

abbrev pub space_stored : Strings → ℕ → Telling → List ℕ → ℕ → List ℕ
space_stored t used name space len = space_into (slot_in t.names name) t used space len

-- what storing begins with
pub record Storable (lengths : List ℕ) (used : ℕ) (space : List ℕ) (len : ℕ) : Type 0 where
  pub all : sum_of lengths ≡ used
  pub fits : used + len ≤ length space
