-- Bridge: how the code holds the arguments of a function, and the text that it makes of them.
-- The contracts of functions that crates use among themselves cite it; no demand and no promise of run, check_recipe or ask rests on it.
use Rattle.whole.specs.declared.errors.Error.{Error}
use Rattle.std.specs.Prelude.{Bool, true, false, List, [], ◌∷◌, ℕ, ◌+◌, ◌≤◌, length, take, drop, Err, Ok, Result}
use Rattle.words.specs.declared.symbols.Scanned.{Scanned}
use Rattle.variables.specs.bridge.Memory.{Made}
use Rattle.variables.specs.Strings.{Value, whole, text, Room, Outcome, longest_space}
use Rattle.variables.specs.declared.values.Worked.{Worked}
use Rattle.variables.specs.declared.values.Worked.TheVariants as worked
use Rattle.strings.specs.declared.arguments.Argument.{Argument}
use Rattle.strings.specs.declared.arguments.Argument.TheVariants as argument
use Rattle.strings.specs.declared.arguments.Given.{Given}
use Rattle.strings.specs.declared.arguments.Given.TheVariants as given

-- ---- arguments, whose texts stand side by side

abbrev pub argument_length : Argument → ℕ
argument_length (argument.Whole w) = 0
argument_length (argument.Text n) = n

abbrev pub argument_word : Argument → ℕ
argument_word (argument.Whole w) = w
argument_word (argument.Text n) = 0

-- its value, where its text begins the bytes
abbrev pub argument_in : Argument → List ℕ → Value
argument_in (argument.Whole w) s = whole w
argument_in (argument.Text n) s = text (take n s)

abbrev pub first_of : Given → Argument
first_of given.None = argument.Whole 0
first_of (given.One a) = a
first_of (given.Two a b) = a
first_of (given.Three a b c) = a

abbrev pub second_of : Given → Argument
second_of given.None = argument.Whole 0
second_of (given.One a) = argument.Whole 0
second_of (given.Two a b) = b
second_of (given.Three a b c) = b

abbrev pub third_of : Given → Argument
third_of given.None = argument.Whole 0
third_of (given.One a) = argument.Whole 0
third_of (given.Two a b) = argument.Whole 0
third_of (given.Three a b c) = c

abbrev pub are_three : Given → Bool
are_three given.None = false
are_three (given.One a) = false
are_three (given.Two a b) = false
are_three (given.Three a b c) = true

-- the bytes of all their texts
abbrev pub given_length : Given → ℕ
given_length g = argument_length (first_of g) + argument_length (second_of g) + argument_length (third_of g)

-- their values, where the first one's text begins the bytes
abbrev pub values_in : Given → List ℕ → List Value
values_in given.None s = []
values_in (given.One a) s = argument_in a s ∷ []
values_in (given.Two a b) s = argument_in a s ∷ argument_in b (drop (argument_length a) s) ∷ []
values_in (given.Three a b c) s =
    argument_in a s ∷ argument_in b (drop (argument_length a) s) ∷ argument_in c (drop (argument_length a + argument_length b) s) ∷ []

-- the arguments' texts lie in the space
pub record Placed (space : List ℕ) (used : ℕ) (g : Given) : Type 0 where
  pub within : used + given_length g ≤ length space
  pub small : length space ≤ longest_space

-- what a function makes of the arguments' values, which are live until it has made it
abbrev pub MadeOf : (List Value → Room → Outcome) → List ℕ → ℕ → Given → Scanned → Result Worked Error → List ℕ → Type 0
MadeOf outcome before used g ahead r after =
    Made before used (used + given_length g) (outcome (values_in g (drop used before))) ahead r after

-- ---- a text, whatever token follows

abbrev pub replied_as : Result ℕ Error → Scanned → Result Worked Error
replied_as (Ok n) t = Ok (worked.Text n t)
replied_as (Err e) t = Err e

abbrev pub TextOf : (List Value → Room → Outcome) → List ℕ → ℕ → Given → Result ℕ Error → List ℕ → Type 0
TextOf outcome before used g r after = (ahead : Scanned) → MadeOf outcome before used g ahead (replied_as r ahead) after
