-- Bytes as the papers write them: the byte of a character, the bytes of a text, and a test for one byte.
use Rattle.std.specs.Prelude.{ℕ, Bool, cond, List, [], ◌∷◌, eqb}
use Prim.Native.Char.{Char, code}
use Prim.Native.String.{String}
use Prim.Native.String as string

-- the byte that is this character
abbrev pub is : Char → ℕ → Bool
is c b = eqb b (code c)

abbrev pub blank : ℕ
blank = code " "

-- the bytes of a text in plain letters
unfoldable pub bytes : String → List ℕ
bytes string.[] = []
bytes (string.◌∷◌ c s) = code c ∷ bytes s

-- the bytes at the front, as long as they pass the test
unfoldable pub leading : (ℕ → Bool) → List ℕ → List ℕ
leading test [] = []
leading test (b ∷ s) = cond (test b) (b ∷ leading test s) []
