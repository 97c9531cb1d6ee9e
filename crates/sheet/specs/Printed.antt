-- The lines that say the totals.
use Rattle.std.specs.Prelude.{cond, List, [], ◌∷◌, ◌++◌, ℕ, ◌+◌, eqb}
use Rattle.whole.specs.Bytes.{bytes}
use Rattle.console.specs.Lines.{line}
use Rattle.means.specs.Means.{mean_of}
use Rattle.means.specs.declared.fractions.Mean.{Mean}
use Rattle.tallies.specs.declared.counting.Tally.{Tally}

-- a line for an error number that was met
abbrev pub code_line : ℕ → ℕ → List ℕ
code_line c n = cond (eqb n 0) [] (line (bytes "code") (c ∷ n ∷ []))

-- in rising order, from c on
unfoldable pub code_lines : ℕ → List ℕ → List ℕ
code_lines c [] = []
code_lines c (n ∷ ns) = code_line c n ++ code_lines (c + 1) ns

-- runs, and runs of each outcome
unfoldable pub outcome_lines : Tally → List ℕ
outcome_lines t =
    line (bytes "runs") (t.runs ∷ [])
    ++ (line (bytes "ended") (t.ended ∷ [])
    ++ (line (bytes "stopped") (t.stopped ∷ []) ++ (line (bytes "out") (t.out ∷ []) ++ line (bytes "error") (t.error ∷ []))))

abbrev pub mean_line : Mean → List ℕ
mean_line mean = line (bytes "mean") (mean.total ∷ mean.count ∷ [])

-- total steps, and the mean steps
unfoldable pub step_lines : Tally → List ℕ
step_lines t = line (bytes "steps") (t.steps ∷ []) ++ mean_line (mean_of t.steps t.runs)

unfoldable pub printed_of : Tally → List ℕ
printed_of t = outcome_lines t ++ (code_lines 0 t.codes ++ step_lines t)
