-- That the exceptions of the laws are needed, and the edges at which the laws still hold, computed by the checker.
use Rattle.std.specs.Prelude.{◌≡◌, refl, List, [], ◌∷◌, map, ℕ, replicate}
use Prim.Native.String.{String}
use Rattle.whole.specs.Bytes.{bytes}
use Rattle.whole.specs.Texts.{places, trimmed, digit_byte, numeral, signed_numeral}
use Rattle.whole.specs.Whole.{num, fit}
use Rattle.whole.specs.declared.errors.Error.{Error}
use Rattle.whole.specs.declared.errors.Error.TheVariants.{IllegalFunctionCall, Overflow, DivisionByZero, OutOfStringSpace, StringTooLong}
use Rattle.words.specs.declared.symbols.Function.TheVariants as function
use Rattle.grammar.specs.Trees.{Formula, number, text, minus, call, none, also}
use Rattle.grammar.specs.Functions.{form_for}
use Rattle.grammar.specs.Formulas.{count_of}
use Rattle.variables.specs.Strings as string
use Rattle.variables.specs.Strings.{Value, whole, Outcome, value, fault, make, let_go, let_all_go, produced}
use Rattle.variables.specs.Variables.{Variables}
use Rattle.strings.specs.Functions.{argument}
use Rattle.operators.specs.Values.{want_at, value_of, values_of}
use Rattle.laws.specs.Laws.{parted, left_first, right_first, not_both, either_not, divided_again, lowest, minus_one}

-- a formula, the bytes of a space that are free for it, and what it comes to
pub data Told : Type 0 where
  gives : Value → Told
  fails : Error → Told

pub record Example : Type 0 where
  pub formula : Formula
  pub space : ℕ
  pub is : Told

abbrev told : Outcome → Told
told (value v room) = gives v
told (fault e room) = fails e

abbrev unset : Variables
unset = record { numbers = []; strings = [] }

abbrev comes_to : Example → Told
comes_to e = told (value_of e.formula unset (record { limit = e.space; live = 0; unfinished = 0; highest = 0 }))

abbrev quoted : String → Formula
quoted s = text (bytes s)

-- STRING$(n,65)
abbrev letters_a : ℕ → Formula
letters_a n = call function.String (also (also none (number n)) (number 65))

-- STR$(FRE(0))
abbrev free_bytes : Formula
free_bytes = call function.Str (also none (call function.Fre (also none (number 0))))

-- ---- LEFT$(X$,N)+MID$(X$,N+1)

pub parts : List Example
parts =
    record { formula = parted (quoted "AB") (number 0); space = 100; is = gives (string.text (bytes "AB")) }
    ∷ record { formula = parted (quoted "AB") (number 254); space = 100; is = gives (string.text (bytes "AB")) }
    ∷ record { formula = parted (letters_a 255) (number 254); space = 1000; is = gives (string.text (replicate 255 65)) }
    -- N of 255: MID$ wants 1 to 255
    ∷ record { formula = parted (quoted "AB") (number 255); space = 100; is = fails IllegalFunctionCall }
    -- 14 on one side only: the parts need 4 bytes, the string 2
    ∷ record { formula = parted (quoted "AB") (number 1); space = 4; is = gives (string.text (bytes "AB")) }
    ∷ record { formula = parted (quoted "AB") (number 1); space = 3; is = fails OutOfStringSpace }
    ∷ record { formula = quoted "AB"; space = 3; is = gives (string.text (bytes "AB")) }
    -- FRE in the place of X$: beside LEFT$'s blank there is one byte less
    ∷ record { formula = free_bytes; space = 30; is = gives (string.text (bytes " 30")) }
    ∷ record { formula = parted free_bytes (number 1); space = 30; is = gives (string.text (bytes " 29")) }
    ∷ []

pub parts_hold : map comes_to parts ≡ map (λ (e : Example). e.is) parts
unfolding parts bytes num fit places trimmed digit_byte numeral signed_numeral form_for count_of make let_go let_all_go produced argument want_at value_of values_of
parts_hold = refl

-- ---- (A$+B$)+C$ and A$+(B$+C$)

pub joins : List Example
joins =
    record { formula = left_first (letters_a 128) (letters_a 126) (quoted "A"); space = 1000; is = gives (string.text (replicate 255 65)) }
    ∷ record { formula = right_first (letters_a 128) (letters_a 126) (quoted "A"); space = 1000; is = gives (string.text (replicate 255 65)) }
    -- a total of 256: there are no bytes
    ∷ record { formula = left_first (letters_a 128) (letters_a 127) (quoted "A"); space = 1000; is = fails StringTooLong }
    ∷ record { formula = right_first (letters_a 128) (letters_a 127) (quoted "A"); space = 1000; is = fails StringTooLong }
    ∷ []

pub joins_hold : map comes_to joins ≡ map (λ (e : Example). e.is) joins
unfolding joins bytes num fit form_for count_of make let_go let_all_go produced argument want_at value_of values_of
joins_hold = refl

-- ---- NOT (A AND B), and (A\B)*B + A MOD B

pub numbers : List Example
numbers =
    record { formula = not_both (number 12) (number 10); space = 0; is = gives (whole 65527) }
    ∷ record { formula = either_not (number 12) (number 10); space = 0; is = gives (whole 65527) }
    ∷ record { formula = divided_again (minus (number 7)) (number 2); space = 0; is = gives (whole 65529) }
    ∷ record { formula = divided_again (number lowest) (number 1); space = 0; is = gives (whole lowest) }
    -- -32768 with -1
    ∷ record { formula = divided_again (number lowest) (number minus_one); space = 0; is = fails Overflow }
    ∷ record { formula = divided_again (number 7) (number 0); space = 0; is = fails DivisionByZero }
    ∷ []

pub numbers_hold : map comes_to numbers ≡ map (λ (e : Example). e.is) numbers
unfolding numbers num fit let_all_go value_of
numbers_hold = refl
