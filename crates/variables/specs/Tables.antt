-- The variable tables that a host lends and gets back: both hold the variables in order of first assignment, and zeros after them.
use Rattle.std.specs.Prelude.{cond, List, [], ◌∷◌, ◌++◌, map, ℕ, zero, suc, ◌+◌, ◌-◌, ◌*◌, length, drop, replicate, None, Option, Some}
use Rattle.words.specs.Names.{Telling, name_width, telling, alike, entry_of}
use Rattle.variables.specs.Variables.{NumberVariable, StringVariable, most_variables}
use Rattle.variables.specs.declared.tables.Numbers.{Numbers}
use Rattle.variables.specs.declared.tables.Strings.{Strings}
use Rattle.variables.specs.declared.tables.Tables.{Tables}

-- ---- the tables that hold some variables

-- how many bytes a table of names has
abbrev pub names_long : ℕ
names_long = name_width * most_variables

-- names side by side
unfoldable pub name_bytes : List Telling → List ℕ
name_bytes [] = []
name_bytes (n ∷ ns) = entry_of n ++ name_bytes ns

abbrev pub numbers_table : List NumberVariable → Numbers
numbers_table vs = record {
  names = name_bytes (map (λ v. v.name) vs) ++ replicate (names_long - name_width * length vs) 0;
  words = map (λ v. v.word) vs ++ replicate (most_variables - length vs) 0;
  count = length vs;
}

abbrev pub strings_table : List StringVariable → Strings
strings_table vs = record {
  names = name_bytes (map (λ v. v.name) vs) ++ replicate (names_long - name_width * length vs) 0;
  lengths = map (λ v. length v.bytes) vs ++ replicate (most_variables - length vs) 0;
  count = length vs;
}

abbrev pub empty_tables : Tables
empty_tables = record {
  numbers = record { names = replicate names_long 0; words = replicate most_variables 0; count = 0 };
  strings = record { names = replicate names_long 0; lengths = replicate most_variables 0; count = 0 };
}

-- ---- what stands in a table

-- so many names
unfoldable pub names_from : ℕ → List ℕ → List Telling
names_from zero names = []
names_from (suc n) names = telling names ∷ names_from n (drop name_width names)

-- a table has 64
unfoldable pub names_in : List ℕ → List Telling
names_in names = names_from most_variables names

unfoldable pub numbers_in : List Telling → List ℕ → List NumberVariable
numbers_in [] ws = []
numbers_in (n ∷ ns) [] = []
numbers_in (n ∷ ns) (w ∷ ws) = record { name = n; word = w } ∷ numbers_in ns ws

-- the first entry with a name, counted from k
unfoldable pub slot_from : ℕ → List Telling → Telling → Option ℕ
slot_from k [] name = None
slot_from k (n ∷ ns) name = cond (alike n name) (Some k) (slot_from (suc k) ns name)

abbrev pub slot_in : List ℕ → Telling → Option ℕ
slot_in names name = slot_from 0 (names_in names) name

unfoldable pub sum_of : List ℕ → ℕ
sum_of [] = 0
sum_of (n ∷ ns) = n + sum_of ns
