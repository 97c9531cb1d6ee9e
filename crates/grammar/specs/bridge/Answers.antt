-- Bridge: how the code answers which line a token numbers, and what a function wants.
-- The contracts of functions that crates use among themselves cite it; no demand and no promise of run, check_recipe or ask rests on it.
use Rattle.words.specs.declared.places.LineNumber.{LineNumber}
use Rattle.std.specs.Prelude.{Bool, true, false, List, [], ◌∷◌, ℕ, None, Option, Some}
use Rattle.words.specs.declared.symbols.Function.{Function}
use Rattle.words.specs.declared.symbols.Token.{Token}
use Rattle.grammar.specs.Tests.{on_line}
use Rattle.grammar.specs.Functions.{forms_of, form_for, any_for}
use Rattle.grammar.specs.declared.wanting.Want.{Want}
use Rattle.grammar.specs.declared.wanting.Wanted.{Wanted}
use Rattle.grammar.specs.declared.wanting.Wanted.TheVariants as wanted

-- ---- the line that a token numbers

abbrev pub line_of : Token → Option LineNumber
line_of t = on_line t Some None

-- ---- a function's arguments

abbrev pub packed_wants : Bool → List Want → Wanted
packed_wants false ws = wanted.NoForm
packed_wants true [] = wanted.NoForm
packed_wants true (a ∷ []) = wanted.One a
packed_wants true (a ∷ b ∷ []) = wanted.Two a b
packed_wants true (a ∷ b ∷ c ∷ []) = wanted.Three a b c
packed_wants true (a ∷ b ∷ c ∷ d ∷ ws) = wanted.NoForm

abbrev pub wanted_in : List (List Want) → ℕ → Wanted
wanted_in forms n = packed_wants (any_for forms n) (form_for forms n)

abbrev pub wanted_of : Function → ℕ → Wanted
wanted_of f n = wanted_in (forms_of f) n
