-- Bridge: what an index tells of a line, whoever made it. The contracts of functions inside this crate cite it; what the program writes rests on
-- the text alone.
use Rattle.std.specs.Prelude.{List, ◌++◌, ℕ}
use Rattle.words.specs.declared.places.LineNumber.{LineNumber}
use Rattle.index.specs.Asking.{line_in, callers_in}
use Rattle.callers_of.specs.Answers.{start_line, caller_lines}

abbrev pub told_by : List ℕ → LineNumber → List ℕ
told_by index n = start_line n (line_in index n) ++ caller_lines (callers_in index n)

-- room for a line and 512 callers, each in at most 255 bytes
abbrev pub room : ℕ
room = 131072
