-- The records of what differs: one a line, fields parted by a tab, ended by byte 10.
use Rattle.std.specs.Prelude.{List, [], ◌∷◌, ◌++◌, ℕ}
use Prim.Native.Char.{code}
use Rattle.whole.specs.Bytes.{bytes}
use Rattle.whole.specs.Texts.{numeral}
use Rattle.compare.specs.Differences.{differences_of}
use Rattle.compare.specs.declared.merging.Way.{Way}
use Rattle.compare.specs.declared.merging.Way.TheVariants.{Gone, New, Changed}
use Rattle.compare.specs.declared.merging.Difference.{Difference}

abbrev pub word_of : Way → List ℕ
word_of Gone = bytes "gone"
word_of New = bytes "new"
word_of Changed = bytes "changed"

-- the word, a tab, the line number without leading zeros, of which it has at most five digits, byte 10
unfoldable pub record_of : Difference → List ℕ
record_of d = word_of d.way ++ (code "\t" ∷ (numeral 10 5 d.number.0 ++ (code "\n" ∷ [])))

unfoldable pub records_of : List Difference → List ℕ
records_of [] = []
records_of (d ∷ ds) = record_of d ++ records_of ds

-- the whole answer of two editions that load
abbrev pub report_of : List ℕ → List ℕ → List ℕ
report_of old new = records_of (differences_of old new)
