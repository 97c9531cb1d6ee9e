-- Bridge: how the readers' answers stand to the formulas that are read.
-- The contracts of functions that crates use among themselves cite it; no demand and no promise of run, check_recipe or ask rests on it.
use Rattle.std.specs.Prelude.{◌≡◌, Option, Some, None, cond, List, [], ◌∷◌, ◌++◌, ℕ, ◌+◌, min, max, leb, ltb, length}
use Rattle.words.specs.declared.symbols.Function.{Function}
use Rattle.words.specs.declared.symbols.Scanned.{Scanned}
use Rattle.words.specs.declared.symbols.Sign.TheVariants.{Open, Close}
use Rattle.scanner.specs.Tokens.{token_at}
use Rattle.whole.specs.declared.arithmetic.Operator.{Operator}
use Rattle.grammar.specs.Tests.{choose, is_symbol}
use Rattle.grammar.specs.Trees.{Formula, Arguments, none, also}
use Rattle.grammar.specs.Functions.{takes}
use Rattle.grammar.specs.Formulas as formulas
use Rattle.grammar.specs.Formulas.{Reading, after, called, formula_at, arguments_at}
use Rattle.expressions.specs.Types.{whole_only, joined_sort, call_sort, sort_of, depth_of, deepest_of, deepest_nesting}
use Rattle.expressions.specs.declared.calls.Sorts.{Sorts}
use Rattle.expressions.specs.declared.calls.Sorts.TheVariants as sorts
use Rattle.expressions.specs.declared.sorts.Sort.{Sort}
use Rattle.expressions.specs.declared.sorts.Sort.TheVariants.{Wrong}
use Rattle.expressions.specs.declared.readers.FormulaRead.{FormulaRead}

-- what is read, by its parts
abbrev pub read_as : Scanned → Sort → ℕ → FormulaRead
read_as t k d = record { ahead = t; sort = k; deepest = d }

abbrev pub Good : Scanned → Sort → ℕ → Option FormulaRead
Good t k d = Some (read_as t k d)

abbrev pub sorts_by : List Sort → Sorts
sorts_by [] = sorts.Zero
sorts_by (a ∷ []) = sorts.One a
sorts_by (a ∷ b ∷ []) = sorts.Two a b
sorts_by (a ∷ b ∷ c ∷ []) = sorts.Three a b c
sorts_by (a ∷ b ∷ c ∷ d ∷ l) = sorts.Many

abbrev pub fit_of : Function → List Sort → Option Sort
fit_of f l = cond (takes f (length l)) (Some (call_sort f (length l) l)) None

-- ---- formulas: the depth is counted up to nine

abbrev pub capped_depth : ℕ → ℕ
capped_depth d = min 9 d

abbrev pub deeper : ℕ → ℕ
deeper d = cond (leb d deepest_nesting) (d + 1) d

-- ---- where fewer than so many pairs of parentheses may nest: what nests deeper is read, and counts as wrong

abbrev pub sort_in : ℕ → Formula → Sort
sort_in room f = cond (ltb (depth_of f) room) (sort_of f) Wrong

unfoldable pub sorts_in : ℕ → Arguments → List Sort
sorts_in room none = []
sorts_in room (also a f) = sorts_in room a ++ (sort_in room f ∷ [])

abbrev pub depth_in : ℕ → ℕ → ℕ
depth_in room d = capped_depth (min room d)

abbrev pub answer_in : ℕ → Reading → Option FormulaRead
answer_in room formulas.bad = None
answer_in room (formulas.good f t) = Good t (sort_in room f) (depth_in room (depth_of f))

-- eight may nest
abbrev pub answer_of : Reading → Option FormulaRead
answer_of x = answer_in 9 x

-- what was skimmed, where there is no room
abbrev pub deep_read : Option Scanned → Option FormulaRead
deep_read None = None
deep_read (Some t) = Good t Wrong 0

-- what each reader makes of what it is handed

abbrev pub fronted : FormulaRead → FormulaRead
fronted r = read_as r.ahead (whole_only r.sort) r.deepest

abbrev pub fronted_read : Option FormulaRead → Option FormulaRead
fronted_read None = None
fronted_read (Some r) = Some (fronted r)

abbrev pub joined : Operator → Sort → ℕ → FormulaRead → FormulaRead
joined op k d r = read_as r.ahead (joined_sort op k r.sort) (max d r.deepest)

abbrev pub joined_read : Operator → Sort → ℕ → Option FormulaRead → Option FormulaRead
joined_read op k d None = None
joined_read op k d (Some r) = Some (joined op k d r)

abbrev pub closed_read : List ℕ → Option FormulaRead → Option FormulaRead
closed_read s None = None
closed_read s (Some r) = cond (is_symbol Close r.ahead.token) (Good (token_at s r.ahead.next) r.sort (deeper r.deepest)) None

-- the arguments that were read, as the code keeps them
pub record Kept (room : ℕ) (types : Sorts) (depth : ℕ) (a : Arguments) : Type 0 where
  pub sorted : types ≡ sorts_by (sorts_in room a)
  pub deep : depth ≡ depth_in room (deepest_of a)

-- a function from its opening parenthesis on, and from what follows its last argument on
abbrev pub call_at : ℕ → List ℕ → Function → Scanned → Reading
call_at n s f t =
    choose (is_symbol Open t.token) (λ _. arguments_at n s f none (formula_at n s 0 (after s t))) (λ _. formulas.bad)

abbrev pub listed_at : List ℕ → Function → Arguments → Scanned → Reading
listed_at s f a t = choose (is_symbol Close t.token) (λ _. called f a (after s t)) (λ _. formulas.bad)
