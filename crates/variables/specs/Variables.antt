-- The variables, in the order of their first assignment; an unset one reads as 0 or empty.
use Rattle.std.specs.Prelude.{Bool, true, false, cond, not, ◌&&◌, List, [], ◌∷◌, ◌++◌, ℕ, ◌+◌, leb, length}
use Rattle.words.specs.Names.{Telling, alike}

pub record NumberVariable : Type 0 where
  pub name : Telling
  pub word : ℕ

pub record StringVariable : Type 0 where
  pub name : Telling
  pub bytes : List ℕ

pub record Variables : Type 0 where
  pub numbers : List NumberVariable
  pub strings : List StringVariable

unfoldable pub word_of : List NumberVariable → Telling → ℕ
word_of [] name = 0
word_of (v ∷ vs) name = cond (alike v.name name) v.word (word_of vs name)

unfoldable pub bytes_of : List StringVariable → Telling → List ℕ
bytes_of [] name = []
bytes_of (v ∷ vs) name = cond (alike v.name name) v.bytes (bytes_of vs name)

-- the bytes of all string variables
unfoldable pub string_bytes : List StringVariable → ℕ
string_bytes [] = 0
string_bytes (v ∷ vs) = length v.bytes + string_bytes vs

-- their bytes, joined in order of first assignment
unfoldable pub joined_strings : List StringVariable → List ℕ
joined_strings [] = []
joined_strings (v ∷ vs) = v.bytes ++ joined_strings vs

-- ---- assignment: a variable is made when first assigned, after the others

unfoldable pub set_number : List NumberVariable → Telling → ℕ → List NumberVariable
set_number [] name w = record { name = name; word = w } ∷ []
set_number (v ∷ vs) name w = cond (alike v.name name) (record { name = v.name; word = w } ∷ vs) (v ∷ set_number vs name w)

unfoldable pub set_string : List StringVariable → Telling → List ℕ → List StringVariable
set_string [] name b = record { name = name; bytes = b } ∷ []
set_string (v ∷ vs) name b = cond (alike v.name name) (record { name = v.name; bytes = b } ∷ vs) (v ∷ set_string vs name b)

-- up to 64 number and 64 string variables; a new one has no room where there are 64 of its kind

abbrev pub most_variables : ℕ
most_variables = 64

unfoldable pub has_number : List NumberVariable → Telling → Bool
has_number [] name = false
has_number (v ∷ vs) name = cond (alike v.name name) true (has_number vs name)

unfoldable pub has_string : List StringVariable → Telling → Bool
has_string [] name = false
has_string (v ∷ vs) name = cond (alike v.name name) true (has_string vs name)

abbrev pub numbers_full : List NumberVariable → Telling → Bool
numbers_full vs name = not (has_number vs name) && leb most_variables (length vs)

abbrev pub strings_full : List StringVariable → Telling → Bool
strings_full vs name = not (has_string vs name) && leb most_variables (length vs)
