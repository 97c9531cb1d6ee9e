-- Lines that a program writes.
use Rattle.std.specs.Prelude.{List, [], ◌∷◌, ◌++◌, ℕ}
use Prim.Native.Char.{code}
use Rattle.whole.specs.Bytes.{bytes}
use Rattle.whole.specs.Texts.{numeral}

-- a number in decimal digits, of which one of 64 bits has at most twenty
abbrev pub decimal : ℕ → List ℕ
decimal n = numeral 10 20 n

-- a tab and a number
abbrev pub field : ℕ → List ℕ
field n = code "\t" ∷ decimal n

abbrev pub fields : List ℕ → List ℕ
fields [] = []
fields (n ∷ ns) = field n ++ fields ns

-- a line: a word and numbers, parted by tabs, ended by byte 10
abbrev pub line : List ℕ → List ℕ → List ℕ
line word numbers = word ++ (fields numbers ++ (code "\n" ∷ []))

-- the line of a refusal: its number, and the place or the line of which it is said
abbrev pub refused_line : ℕ → ℕ → List ℕ
refused_line number standing = line (bytes "refused") (number ∷ standing ∷ [])
