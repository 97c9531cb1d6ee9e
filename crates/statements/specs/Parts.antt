-- What is asked of a line that reads: how deep its formulas nest, whether its types are right, which lines it names. Every branch
-- counts: the statements of a part are taken in text order, those of an IF's parts after the IF.
use Rattle.words.specs.declared.places.LineNumber.{LineNumber}
use Rattle.std.specs.Prelude.{Bool, true, ◌&&◌, List, [], ◌∷◌, ◌++◌, ℕ, max, None, Option, Some}
use Rattle.grammar.specs.Trees.{Formula, Variable, Item, comma, semicolon, shown, Statement, empty, assign, print, if_then, if_else, goto, gosub, return, for, next, next_of, while, wend, line_input, data_of, read, restore, restore_to, end, stop, remark, Part, last, more}
use Rattle.expressions.specs.Types.{is_whole, is_some, is_of, sort_of, depth_of}
use Rattle.expressions.specs.declared.sorts.Sort.TheVariants.{Whole, Text}

-- ---- a statement by itself, without the parts of an IF

abbrev pub item_formulas : List Item → List Formula
item_formulas [] = []
item_formulas (comma ∷ is) = item_formulas is
item_formulas (semicolon ∷ is) = item_formulas is
item_formulas (shown f ∷ is) = f ∷ item_formulas is

abbrev pub formulas_of : Statement → List Formula
formulas_of empty = []
formulas_of (assign v f) = f ∷ []
formulas_of (print is) = item_formulas is
formulas_of (if_then c p) = c ∷ []
formulas_of (if_else c p q) = c ∷ []
formulas_of (goto l) = []
formulas_of (gosub l) = []
formulas_of return = []
formulas_of (for v from to by) = from ∷ to ∷ by ∷ []
formulas_of next = []
formulas_of (next_of v) = []
formulas_of (while c) = c ∷ []
formulas_of wend = []
formulas_of (line_input t v) = []
formulas_of (data_of l) = []
formulas_of (read vs) = []
formulas_of restore = []
formulas_of (restore_to l) = []
formulas_of end = []
formulas_of stop = []
formulas_of remark = []

unfoldable pub deepest : List Formula → ℕ
deepest [] = 0
deepest (f ∷ fs) = max (depth_of f) (deepest fs)

unfoldable pub all_some : List Formula → Bool
all_some [] = true
all_some (f ∷ fs) = is_some (sort_of f) && all_some fs

abbrev pub is_number : Variable → Bool
is_number v = is_of v.kind Whole

-- a formula, condition, argument, target or NEXT's name of the right type
abbrev pub rightly_typed : Statement → Bool
rightly_typed empty = true
rightly_typed (assign v f) = is_of v.kind (sort_of f)
rightly_typed (print is) = all_some (item_formulas is)
rightly_typed (if_then c p) = is_whole (sort_of c)
rightly_typed (if_else c p q) = is_whole (sort_of c)
rightly_typed (goto l) = true
rightly_typed (gosub l) = true
rightly_typed return = true
rightly_typed (for v from to by) = is_number v && (is_whole (sort_of from) && (is_whole (sort_of to) && is_whole (sort_of by)))
rightly_typed next = true
rightly_typed (next_of v) = is_number v
rightly_typed (while c) = is_whole (sort_of c)
rightly_typed wend = true
rightly_typed (line_input t v) = is_of v.kind Text
rightly_typed (data_of l) = true
rightly_typed (read vs) = true
rightly_typed restore = true
rightly_typed (restore_to l) = true
rightly_typed end = true
rightly_typed stop = true
rightly_typed remark = true

-- the line that a statement names
abbrev pub named_line : Statement → Option LineNumber
named_line empty = None
named_line (assign v f) = None
named_line (print is) = None
named_line (if_then c p) = None
named_line (if_else c p q) = None
named_line (goto l) = Some l
named_line (gosub l) = Some l
named_line return = None
named_line (for v from to by) = None
named_line next = None
named_line (next_of v) = None
named_line (while c) = None
named_line wend = None
named_line (line_input t v) = None
named_line (data_of l) = None
named_line (read vs) = None
named_line restore = None
named_line (restore_to l) = Some l
named_line end = None
named_line stop = None
named_line remark = None

-- ---- a part: its first statement, where that stands in the line, and what is left of the part after it

abbrev pub head_of : Part → Statement
head_of (last p x) = x
head_of (more p x rest) = x

abbrev pub place_of : Part → ℕ
place_of (last p x) = p
place_of (more p x rest) = p

-- what of a part is still to be done
pub data Rest : Type 0 where
  nothing : Rest
  part : Part → Rest

abbrev pub tail_of : Part → Rest
tail_of (last p x) = nothing
tail_of (more p x rest) = part rest

-- ---- all statements of a part, in text order

-- each as the part that it begins; those of an IF's parts stand after the IF
unfoldable mutual
  pub parts_of : Part → List Part
  parts_of (last p x) = last p x ∷ parts_within x
  parts_of (more p x rest) = more p x rest ∷ (parts_within x ++ parts_of rest)

  -- those of the parts of an IF
  pub parts_within : Statement → List Part
  parts_within empty = []
  parts_within (assign v f) = []
  parts_within (print is) = []
  parts_within (if_then c p) = parts_of p
  parts_within (if_else c p q) = parts_of p ++ parts_of q
  parts_within (goto l) = []
  parts_within (gosub l) = []
  parts_within return = []
  parts_within (for v from to by) = []
  parts_within next = []
  parts_within (next_of v) = []
  parts_within (while c) = []
  parts_within wend = []
  parts_within (line_input t v) = []
  parts_within (data_of l) = []
  parts_within (read vs) = []
  parts_within restore = []
  parts_within (restore_to l) = []
  parts_within end = []
  parts_within stop = []
  parts_within remark = []

unfoldable pub heads : List Part → List Statement
heads [] = []
heads (p ∷ ps) = head_of p ∷ heads ps

abbrev pub statements_of : Part → List Statement
statements_of p = heads (parts_of p)

unfoldable pub deepest_in : List Statement → ℕ
deepest_in [] = 0
deepest_in (x ∷ xs) = max (deepest (formulas_of x)) (deepest_in xs)

unfoldable pub all_typed : List Statement → Bool
all_typed [] = true
all_typed (x ∷ xs) = rightly_typed x && all_typed xs
