-- Who jumps here: the lines of a text that name a line after GOTO, GOSUB, THEN, ELSE or RESTORE, by reading the whole text.
use Rattle.std.specs.Prelude.{Bool, false, cond, ◌||◌, List, [], ◌∷◌, ℕ, eqb, None, Option, Some}
use Rattle.whole.specs.Digits.{leading_value}
use Rattle.words.specs.declared.places.LineNumber.{LineNumber}
use Rattle.loader.specs.Lines.{Line, lines_of, after_number}
use Rattle.grammar.specs.Trees.{Statement}
use Rattle.statements.specs.Parts.{named_line, statements_of}
use Rattle.reader.specs.Lines.{Judgement, unreadable, too_deep, holds, judgement}

-- whether it is the line n that is named
abbrev pub is_named : ℕ → Option LineNumber → Bool
is_named n (Some l) = eqb l.0 n
is_named n None = false

-- whether one of some statements names the line n
unfoldable pub any_names : ℕ → List Statement → Bool
any_names n [] = false
any_names n (x ∷ xs) = is_named n (named_line x) || any_names n xs

-- whether a line does, in any branch; one that doesn't read names nothing
abbrev pub line_names : ℕ → Judgement → Bool
line_names n unreadable = false
line_names n too_deep = false
line_names n (holds p) = any_names n (statements_of p)

abbrev pub in_front_if : Bool → ℕ → List ℕ → List ℕ
in_front_if b n ns = cond b (n ∷ ns) ns

-- the numbers of those lines that name the line n
unfoldable pub callers_among : ℕ → List Line → List ℕ
callers_among n [] = []
callers_among n (l ∷ ls) = in_front_if (line_names n (judgement (after_number l))) (leading_value l.bytes) (callers_among n ls)

abbrev pub callers_of : List ℕ → LineNumber → List ℕ
callers_of text n = callers_among n.0 (lines_of text)
