-- The functions: how many arguments each takes, of which types, and the type it gives.
use Rattle.std.specs.Prelude.{Bool, false, cond, ◌||◌, List, [], ◌∷◌, ℕ, eqb, length}
use Rattle.words.specs.declared.names.Kind.{Kind}
use Rattle.words.specs.declared.names.Kind.TheVariants as kind
use Rattle.words.specs.declared.symbols.Function.{Function}
use Rattle.words.specs.declared.symbols.Function.TheVariants.{
  Len,
  Asc,
  Chr,
  Left,
  Right,
  Mid,
  Space,
  String,
  Instr,
  Str,
  Hex,
  Val,
  Abs,
  Sgn,
  Fre,
}
use Rattle.grammar.specs.declared.wanting.Want.{Want}
use Rattle.grammar.specs.declared.wanting.Want.TheVariants.{Whole, Text, Either}

-- the lists of arguments that a function takes
abbrev pub forms_of : Function → List (List Want)
forms_of Len = (Text ∷ []) ∷ []
forms_of Asc = (Text ∷ []) ∷ []
forms_of Chr = (Whole ∷ []) ∷ []
forms_of Left = (Text ∷ Whole ∷ []) ∷ []
forms_of Right = (Text ∷ Whole ∷ []) ∷ []
forms_of Mid = (Text ∷ Whole ∷ []) ∷ (Text ∷ Whole ∷ Whole ∷ []) ∷ []
forms_of Space = (Whole ∷ []) ∷ []
forms_of String = (Whole ∷ Either ∷ []) ∷ []
forms_of Instr = (Text ∷ Text ∷ []) ∷ (Whole ∷ Text ∷ Text ∷ []) ∷ []
forms_of Str = (Whole ∷ []) ∷ []
forms_of Hex = (Whole ∷ []) ∷ []
forms_of Val = (Text ∷ []) ∷ []
forms_of Abs = (Whole ∷ []) ∷ []
forms_of Sgn = (Whole ∷ []) ∷ []
forms_of Fre = (Either ∷ []) ∷ []

-- which of some lists goes by how many arguments there are
unfoldable pub form_for : List (List Want) → ℕ → List Want
form_for [] n = []
form_for (w ∷ ws) n = cond (eqb (length w) n) w (form_for ws n)

unfoldable pub any_for : List (List Want) → ℕ → Bool
any_for [] n = false
any_for (w ∷ ws) n = eqb (length w) n || any_for ws n

-- whether a function takes so many arguments, and what it wants of them
abbrev pub takes : Function → ℕ → Bool
takes f n = any_for (forms_of f) n

abbrev pub wants : Function → ℕ → List Want
wants f n = form_for (forms_of f) n

-- the type that a function gives
abbrev pub gives : Function → Kind
gives Len = kind.Whole
gives Asc = kind.Whole
gives Chr = kind.Text
gives Left = kind.Text
gives Right = kind.Text
gives Mid = kind.Text
gives Space = kind.Text
gives String = kind.Text
gives Instr = kind.Whole
gives Str = kind.Text
gives Hex = kind.Text
gives Val = kind.Whole
gives Abs = kind.Whole
gives Sgn = kind.Whole
gives Fre = kind.Whole
