-- The functions, each over the values of its arguments, whose types are right; ranges are tested after all arguments are worked
-- out and before the result asks for room.
use Rattle.whole.specs.declared.errors.Error.{Error}
use Rattle.std.specs.Prelude.{Bool, true, false, cond, ◌&&◌, ◌||◌, List, [], ◌∷◌, ℕ, zero, suc, ◌-◌, leb, ltb, eqb, pos, length, take, drop, get_or, replicate, Err, Ok, Result}
use Rattle.whole.specs.Digits.{val_of}
use Rattle.whole.specs.Texts.{signed_numeral, hexadecimal, longest_string}
use Rattle.whole.specs.Whole.{fit, magnitude, signum}
use Rattle.whole.specs.declared.errors.Error.TheVariants.{IllegalFunctionCall}
use Rattle.whole.specs.Bytes.{blank}
use Rattle.words.specs.declared.symbols.Function.{Function}
use Rattle.words.specs.declared.symbols.Function.TheVariants.{
  Len,
  Asc,
  Chr,
  Left,
  Right,
  Mid,
  Space,
  String,
  Instr,
  Str,
  Hex,
  Val,
  Abs,
  Sgn,
  Fre,
}
use Rattle.variables.specs.Strings.{Value, whole, text, Room, Outcome, value, fault, let_all_go, produced}

-- ---- the arguments by their places, from 0

abbrev pub word_in : Value → ℕ
word_in (whole w) = w
word_in (text b) = 0

abbrev pub bytes_in : Value → List ℕ
bytes_in (whole w) = []
bytes_in (text b) = b

unfoldable pub argument : List Value → ℕ → Value
argument [] n = whole 0
argument (v ∷ vs) zero = v
argument (v ∷ vs) (suc n) = argument vs n

abbrev pub word : List Value → ℕ → ℕ
word vs n = word_in (argument vs n)

abbrev pub bytes : List Value → ℕ → List ℕ
bytes vs n = bytes_in (argument vs n)

-- ---- results

-- a whole number, or its error; the operands are let go
abbrev pub answered : Result ℕ Error → List Value → Room → Outcome
answered (Ok w) operands room = value (whole w) (let_all_go operands room)
answered (Err e) operands room = fault e room

-- every range ends at 255
abbrev pub largest_argument : ℕ
largest_argument = 255

-- a word in a range that begins at 0 or 1; outside is 5
abbrev pub within : ℕ → ℕ → Bool
within low w = leb low w && leb w largest_argument

abbrev pub ranged : Bool → Room → Outcome → Outcome
ranged right room result = cond right result (fault IllegalFunctionCall room)

-- ---- INSTR: the first place at or after i where y stands in x, counted from 1, or 0

-- whether s begins with y
unfoldable pub starts_with : List ℕ → List ℕ → Bool
starts_with [] s = true
starts_with (c ∷ y) [] = false
starts_with (c ∷ y) (b ∷ s) = eqb b c && starts_with y s

unfoldable pub found : ℕ → List ℕ → List ℕ → ℕ
found place [] y = 0
found place (b ∷ s) y = cond (starts_with y (b ∷ s)) place (found (suc place) s y)

unfoldable pub place_of : ℕ → List ℕ → List ℕ → ℕ
place_of i x y = cond (eqb (length x) 0 || ltb (length x) i) 0 (cond (eqb (length y) 0) i (found i (drop (i - 1) x) y))

-- ---- each function

-- STRING$'s second argument: a code, or a text's first byte
abbrev pub fill_right : Value → Bool
fill_right (whole w) = within 0 w
fill_right (text []) = false
fill_right (text (b ∷ s)) = true

abbrev pub fill_byte : Value → ℕ
fill_byte (whole w) = w
fill_byte (text []) = 0
fill_byte (text (b ∷ s)) = b

-- MID$ and INSTR by the number of their arguments
abbrev pub mid_length : List Value → ℕ
mid_length vs = cond (eqb (length vs) 3) (word vs 2) longest_string

abbrev pub instr_start : List Value → ℕ
instr_start vs = cond (eqb (length vs) 3) (word vs 0) 1

abbrev pub instr_texts : List Value → ℕ
instr_texts vs = length vs - 2

abbrev pub called : Function → List Value → Room → Outcome
called Len vs room = answered (Ok (length (bytes vs 0))) vs room
called Asc vs room = ranged (leb 1 (length (bytes vs 0))) room (answered (Ok (get_or (bytes vs 0) 0 0)) vs room)
called Chr vs room = ranged (within 0 (word vs 0)) room (produced (word vs 0 ∷ []) vs room)
called Left vs room = ranged (within 0 (word vs 1)) room (produced (take (word vs 1) (bytes vs 0)) vs room)
called Right vs room =
    ranged (within 0 (word vs 1)) room (produced (drop (length (bytes vs 0) - word vs 1) (bytes vs 0)) vs room)
called Mid vs room =
    ranged (within 1 (word vs 1) && within 0 (mid_length vs)) room
    (produced (take (mid_length vs) (drop (word vs 1 - 1) (bytes vs 0))) vs room)
called Space vs room = ranged (within 0 (word vs 0)) room (produced (replicate (word vs 0) blank) vs room)
called String vs room =
    ranged (within 0 (word vs 0) && fill_right (argument vs 1)) room
    (produced (replicate (word vs 0) (fill_byte (argument vs 1))) vs room)
called Instr vs room =
    ranged (within 1 (instr_start vs)) room
    (answered (Ok (place_of (instr_start vs) (bytes vs (instr_texts vs)) (bytes vs (suc (instr_texts vs))))) vs room)
called Str vs room = produced (signed_numeral (word vs 0)) vs room
called Hex vs room = produced (hexadecimal (word vs 0)) vs room
called Val vs room = answered (val_of (bytes vs 0)) vs room
called Abs vs room = answered (magnitude (word vs 0)) vs room
called Sgn vs room = answered (Ok (signum (word vs 0))) vs room
-- FRE of anything lets its argument go and gives space minus live bytes
called Fre vs room = answered (fit (pos (room.limit - (let_all_go vs room).live))) vs room
