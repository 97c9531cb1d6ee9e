-- Bridge: how the code takes an argument, and how it holds a number that a function gives.
-- The contracts of functions that crates use among themselves cite it; no demand and no promise of run, check_recipe or ask rests on it.
use Rattle.whole.specs.declared.errors.Error.{Error}
use Rattle.std.specs.Prelude.{Bool, true, false, cond, ◌&&◌, List, ℕ, eqb, Result, Ok, Err}
use Rattle.whole.specs.declared.errors.Error.TheVariants.{TypeMismatch}
use Rattle.words.specs.declared.symbols.Function.{Function}
use Rattle.words.specs.declared.symbols.Function.TheVariants as function
use Rattle.words.specs.declared.symbols.Scanned.{Scanned}
use Rattle.words.specs.declared.symbols.Sign.TheVariants.{Comma}
use Rattle.grammar.specs.Tests.{is_symbol}
use Rattle.grammar.specs.declared.wanting.Want.{Want}
use Rattle.grammar.specs.declared.wanting.Want.TheVariants as want
use Rattle.variables.specs.bridge.Memory.{answered_as}
use Rattle.variables.specs.Strings.{Value, Room, Outcome}
use Rattle.variables.specs.declared.values.Worked.{Worked}
use Rattle.variables.specs.declared.values.Worked.TheVariants as worked
use Rattle.strings.specs.bridge.Memory.{MadeOf}
use Rattle.strings.specs.declared.arguments.Argument.{Argument}
use Rattle.strings.specs.declared.arguments.Argument.TheVariants as argument
use Rattle.strings.specs.declared.arguments.Given.{Given}
use Rattle.strings.specs.declared.arguments.Given.TheVariants as given
use Rattle.functions.specs.declared.arguments.Taken.{Taken}
use Rattle.functions.specs.declared.arguments.Taken.TheVariants as taken

-- ---- taking an argument

-- how many there are
abbrev pub count_of : Given → ℕ
count_of given.None = 0
count_of (given.One a) = 1
count_of (given.Two a b) = 2
count_of (given.Three a b c) = 3

-- one more; no function takes a fourth
abbrev pub with_argument : Given → Argument → Given
with_argument given.None x = given.One x
with_argument (given.One a) x = given.Two a x
with_argument (given.Two a b) x = given.Three a b x
with_argument (given.Three a b c) x = given.Three a b c

abbrev pub meets_want : Want → Argument → Bool
meets_want want.Whole (argument.Whole w) = true
meets_want want.Whole (argument.Text n) = false
meets_want want.Text (argument.Whole w) = false
meets_want want.Text (argument.Text n) = true
meets_want want.Either a = true

-- what a function wants of the argument at a place, where it takes as many
abbrev pub want_by : Function → Bool → ℕ → Want
want_by function.Len three place = want.Text
want_by function.Asc three place = want.Text
want_by function.Chr three place = want.Whole
want_by function.Left three place = cond (eqb place 0) want.Text want.Whole
want_by function.Right three place = cond (eqb place 0) want.Text want.Whole
want_by function.Mid three place = cond (eqb place 0) want.Text want.Whole
want_by function.Space three place = want.Whole
want_by function.String three place = cond (eqb place 0) want.Whole want.Either
want_by function.Instr three place = cond (three && eqb place 0) want.Whole want.Text
want_by function.Str three place = want.Whole
want_by function.Hex three place = want.Whole
want_by function.Val three place = want.Text
want_by function.Abs three place = want.Whole
want_by function.Sgn three place = want.Whole
want_by function.Fre three place = want.Either

-- a comma goes on to one more, and all else closes the list
abbrev pub gone_on : Given → Argument → Scanned → Taken
gone_on g a t = cond (is_symbol Comma t.token) (taken.More (with_argument g a) t.next) (taken.All (with_argument g a) t.next)

-- an argument is tested as soon as it is worked out
abbrev pub taken_before : Want → Given → Argument → Scanned → Result Taken Error
taken_before w g a t = cond (meets_want w a) (Ok (gone_on g a t)) (Err TypeMismatch)

abbrev pub taken_wanted : Want → Given → Result Worked Error → Result Taken Error
taken_wanted w g (Ok (worked.Whole x t)) = taken_before w g (argument.Whole x) t
taken_wanted w g (Ok (worked.Text n t)) = taken_before w g (argument.Text n) t
taken_wanted w g (Err e) = Err e

abbrev pub taken_as : Function → Bool → Given → Result Worked Error → Result Taken Error
taken_as f three g x = taken_wanted (want_by f three (count_of g)) g x

-- ---- a number

-- what a function that gives a number makes of the arguments: it leaves the space as it was, whatever token follows
abbrev pub NumberOf : (List Value → Room → Outcome) → List ℕ → ℕ → Given → Result ℕ Error → Type 0
NumberOf outcome space used g x = (ahead : Scanned) → MadeOf outcome space used g ahead (answered_as x ahead) space
