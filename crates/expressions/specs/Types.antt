-- Types. A minus sign, NOT, and every operator but `+` and the comparisons want whole numbers; `+` and comparisons want the right
-- side to be of the left's type; a function wants what its list says.
use Rattle.std.specs.Prelude.{Bool, true, false, cond, ◌&&◌, List, [], ◌∷◌, ◌++◌, ℕ, suc, max}
use Rattle.whole.specs.declared.arithmetic.Operator.{Operator}
use Rattle.whole.specs.declared.arithmetic.Operator.TheVariants as operator
use Rattle.words.specs.declared.names.Kind.{Kind}
use Rattle.words.specs.declared.names.Kind.TheVariants as kind
use Rattle.words.specs.declared.symbols.Function.{Function}
use Rattle.grammar.specs.Trees.{Formula, number, variable, text, inside, minus, complement, two_sided, call, Arguments, none, also}
use Rattle.grammar.specs.Functions.{wants, gives}
use Rattle.grammar.specs.Formulas.{count_of}
use Rattle.grammar.specs.declared.wanting.Want.{Want}
use Rattle.grammar.specs.declared.wanting.Want.TheVariants as want
use Rattle.expressions.specs.declared.sorts.Sort.{Sort}
use Rattle.expressions.specs.declared.sorts.Sort.TheVariants.{Whole, Text, Wrong}

abbrev pub of_kind : Kind → Sort
of_kind kind.Whole = Whole
of_kind kind.Text = Text

abbrev pub is_whole : Sort → Bool
is_whole Whole = true
is_whole Text = false
is_whole Wrong = false

abbrev pub is_text : Sort → Bool
is_text Whole = false
is_text Text = true
is_text Wrong = false

abbrev pub is_some : Sort → Bool
is_some Whole = true
is_some Text = true
is_some Wrong = false

-- whether a formula is of a variable's kind
abbrev pub is_of : Kind → Sort → Bool
is_of kind.Whole s = is_whole s
is_of kind.Text s = is_text s

-- what wants a whole number
abbrev pub whole_only : Sort → Sort
whole_only Whole = Whole
whole_only Text = Wrong
whole_only Wrong = Wrong

-- both sides of one type, which is given
abbrev pub common_sort : Sort → Sort → Sort
common_sort Whole Whole = Whole
common_sort Whole Text = Wrong
common_sort Whole Wrong = Wrong
common_sort Text Whole = Wrong
common_sort Text Text = Text
common_sort Text Wrong = Wrong
common_sort Wrong b = Wrong

-- both sides of one type; a whole number is given
abbrev pub compared : Sort → Sort
compared Whole = Whole
compared Text = Whole
compared Wrong = Wrong

abbrev pub joined_sort : Operator → Sort → Sort → Sort
joined_sort operator.Add a b = common_sort a b
joined_sort operator.Equal a b = compared (common_sort a b)
joined_sort operator.Unequal a b = compared (common_sort a b)
joined_sort operator.Less a b = compared (common_sort a b)
joined_sort operator.Greater a b = compared (common_sort a b)
joined_sort operator.AtMost a b = compared (common_sort a b)
joined_sort operator.AtLeast a b = compared (common_sort a b)
joined_sort operator.Multiply a b = whole_only (common_sort a b)
joined_sort operator.Divide a b = whole_only (common_sort a b)
joined_sort operator.Modulo a b = whole_only (common_sort a b)
joined_sort operator.Subtract a b = whole_only (common_sort a b)
joined_sort operator.And a b = whole_only (common_sort a b)
joined_sort operator.Or a b = whole_only (common_sort a b)
joined_sort operator.Xor a b = whole_only (common_sort a b)
joined_sort operator.Eqv a b = whole_only (common_sort a b)
joined_sort operator.Imp a b = whole_only (common_sort a b)

-- whether an argument is what is wanted
abbrev pub meets : Want → Sort → Bool
meets want.Whole Whole = true
meets want.Whole Text = false
meets want.Whole Wrong = false
meets want.Text Whole = false
meets want.Text Text = true
meets want.Text Wrong = false
meets want.Either Whole = true
meets want.Either Text = true
meets want.Either Wrong = false

unfoldable pub all_meet : List Want → List Sort → Bool
all_meet [] [] = true
all_meet [] (s ∷ ss) = false
all_meet (w ∷ ws) [] = false
all_meet (w ∷ ws) (s ∷ ss) = meets w s && all_meet ws ss

-- a call whose arguments are all what is wanted gives its function's type
abbrev pub call_gives : Function → Bool → Sort
call_gives f fits = cond fits (of_kind (gives f)) Wrong

abbrev pub call_sort : Function → ℕ → List Sort → Sort
call_sort f count sorts = call_gives f (all_meet (wants f count) sorts)

unfoldable mutual
  pub sort_of : Formula → Sort
  sort_of (number w) = Whole
  sort_of (variable k v) = of_kind k
  sort_of (text t) = Text
  sort_of (inside f) = sort_of f
  sort_of (minus f) = whole_only (sort_of f)
  sort_of (complement f) = whole_only (sort_of f)
  sort_of (two_sided op f g) = joined_sort op (sort_of f) (sort_of g)
  sort_of (call f a) = call_sort f (count_of a) (sorts_of a)

  pub sorts_of : Arguments → List Sort
  sorts_of none = []
  sorts_of (also a f) = sorts_of a ++ (sort_of f ∷ [])

-- ---- how deep parentheses nest, a function's own included: at most 8

abbrev pub deepest_nesting : ℕ
deepest_nesting = 8

unfoldable mutual
  pub depth_of : Formula → ℕ
  depth_of (number w) = 0
  depth_of (variable k v) = 0
  depth_of (text t) = 0
  depth_of (inside f) = suc (depth_of f)
  depth_of (minus f) = depth_of f
  depth_of (complement f) = depth_of f
  depth_of (two_sided op f g) = max (depth_of f) (depth_of g)
  depth_of (call f a) = suc (deepest_of a)

  pub deepest_of : Arguments → ℕ
  deepest_of none = 0
  deepest_of (also a f) = max (deepest_of a) (depth_of f)
