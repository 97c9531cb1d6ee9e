-- The pairs of a text: a line that is named and a line that names it, each once, in text order.
use Rattle.words.specs.declared.places.LineNumber.{LineNumber}
use Rattle.std.specs.Prelude.{Bool, false, cond, ◌||◌, List, [], ◌∷◌, ◌++◌, ℕ, eqb, None, Option, Some}
use Rattle.whole.specs.Digits.{leading_value}
use Rattle.loader.specs.Lines.{Line, lines_of, after_number}
use Rattle.grammar.specs.Trees.{Statement}
use Rattle.statements.specs.Parts.{named_line, statements_of}
use Rattle.reader.specs.Lines.{Judgement, unreadable, too_deep, holds, judgement}

pub record Pair : Type 0 where
  pub named : ℕ
  pub naming : ℕ

-- whether a number is one of some
unfoldable pub is_in : ℕ → List ℕ → Bool
is_in n [] = false
is_in n (m ∷ ms) = eqb m n || is_in n ms

-- a line that is named, after those so far unless it is one of them
abbrev pub with_named : List ℕ → Option LineNumber → List ℕ
with_named seen (Some l) = cond (is_in l.0 seen) seen (seen ++ (l.0 ∷ []))
with_named seen None = seen

-- those that some statements name, each once, after those so far
unfoldable pub named_by : List ℕ → List Statement → List ℕ
named_by seen [] = seen
named_by seen (x ∷ xs) = named_by (with_named seen (named_line x)) xs

-- those that a line names
abbrev pub named_in : Judgement → List ℕ
named_in unreadable = []
named_in too_deep = []
named_in (holds p) = named_by [] (statements_of p)

-- each as a pair with the line that names it
unfoldable pub pairs_with : ℕ → List ℕ → List Pair
pairs_with own [] = []
pairs_with own (n ∷ ns) = record { named = n; naming = own } ∷ pairs_with own ns

unfoldable pub pairs_among : List Line → List Pair
pairs_among [] = []
pairs_among (l ∷ ls) = pairs_with (leading_value l.bytes) (named_in (judgement (after_number l))) ++ pairs_among ls

abbrev pub pairs_of : List ℕ → List Pair
pairs_of text = pairs_among (lines_of text)
