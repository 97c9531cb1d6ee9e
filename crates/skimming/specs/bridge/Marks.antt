-- Bridge: the code's bytes for what is open.
-- The contracts of functions inside this crate cite it; no demand and no promise of run, check_recipe or ask rests on it.
use Rattle.std.specs.Prelude.{◌≡◌, cond, List, [], ◌∷◌, ℕ, zero, suc, ◌-◌, ◌/◌, eqb, get_or}
use Rattle.words.specs.declared.symbols.Function.{Function}
use Rattle.words.specs.declared.symbols.Function.TheVariants.{
  Len,
  Asc,
  Chr,
  Left,
  Right,
  Mid,
  Space,
  String,
  Instr,
  Str,
  Hex,
  Val,
  Abs,
  Sgn,
  Fre,
}
use Rattle.skimming.specs.bridge.Flat.{Opened, plain, of}

-- bit n of a function's mark says whether it takes n + 1 arguments
abbrev pub function_mark : Function → ℕ
function_mark Len = 1
function_mark Asc = 1
function_mark Chr = 1
function_mark Left = 2
function_mark Right = 2
function_mark Mid = 6
function_mark Space = 1
function_mark String = 2
function_mark Instr = 6
function_mark Str = 1
function_mark Hex = 1
function_mark Val = 1
function_mark Abs = 1
function_mark Sgn = 1
function_mark Fre = 1

-- behind each argument a bit is left out
unfoldable pub less_bits : ℕ → ℕ → ℕ
less_bits zero m = m
less_bits (suc k) m = less_bits k m / 2

abbrev pub mark_of : Opened → ℕ
mark_of plain = 1
mark_of (of f k) = less_bits k (function_mark f)

-- what a mark says is open where skimming starts
abbrev pub First : ℕ → List Opened → Type 0
First m [] = m ≡ 0
First m (o ∷ []) = (m ≡ mark_of o) × (m ≡ 0 → ⊥)
First m (o ∷ p ∷ os) = ⊥

abbrev pub first_depth : ℕ → ℕ
first_depth m = cond (eqb m 0) 0 1

-- the mark of what was opened last, or 0
abbrev pub top_of : List ℕ → ℕ → ℕ
top_of marks depth = cond (eqb depth 0) 0 (get_or marks (depth - 1) 0)
