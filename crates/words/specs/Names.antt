-- Up to 40 characters of a name tell, in capitals.
use Rattle.std.specs.Prelude.{Bool, not, List, ◌++◌, map, ℕ, ◌-◌, eqb, length, take, drop, replicate}
use Rattle.whole.specs.Bytes.{leading}
use Rattle.words.specs.Classes.{capital_of}
use Rattle.words.specs.Spellings.{same_bytes}
use Rattle.words.specs.declared.names.Name.{Name}

-- how many characters tell, and a name may have
abbrev pub name_width : ℕ
name_width = 40

-- the characters of a name that stands in a line
abbrev pub name_bytes : List ℕ → Name → List ℕ
name_bytes line name = take name.len (drop name.at line)

-- a name, by its characters that tell
abbrev pub Telling : Type 0
Telling = List ℕ

-- those of some characters that tell: up to 40 of them, and none from a zero on, for zeros follow a name in a table
unfoldable pub telling : List ℕ → Telling
telling s = leading (λ b. not (eqb b 0)) (take name_width s)

-- those of a name, in capitals
unfoldable pub telling_of : List ℕ → Telling
telling_of name = telling (map capital_of name)

-- names are one variable's where what tells is the same
abbrev pub alike : Telling → Telling → Bool
alike a b = same_bytes (telling a) (telling b)

-- a name as a table has it: zeros up to its width follow it
abbrev pub entry_of : Telling → List ℕ
entry_of name = telling name ++ replicate (name_width - length (telling name)) 0
