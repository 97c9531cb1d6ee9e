-- Bridge: what is held of a sheet between two parts. `CutAnywhere` joins it with the definition of a sheet.
use Rattle.std.specs.Prelude.{◌≡◌, cond, Ok, Err, List, [], ◌∷◌, ℕ, eqb, take}
use Prim.Native.Char.{code}
use Rattle.whole.specs.Texts.{held, with_byte}
use Rattle.whole.specs.declared.texts.Text.{Text}
use Rattle.loader.specs.Lines.{ends_line}
use Rattle.records.specs.Records.{record_of}
use Rattle.tallies.specs.bridge.Counting.{Standing, no_runs, good, with_record}
use Rattle.tallies.specs.declared.counting.Tally.{Tally}
use Rattle.tallies.specs.declared.counting.Count.{Count}
use Rattle.sheet.specs.Printed.{printed_of}
use Rattle.sheet.specs.Sheet.{refused_line, sheet_of, joined}
use Rattle.sheet.specs.declared.taking.Sheet.{Sheet}

-- ---- a byte more

abbrev pub contents : Text → List ℕ
contents t = take t.len t.bytes

-- a line without a byte 13 at its end
unfoldable pub kept : List ℕ → List ℕ
kept [] = []
kept (b ∷ []) = cond (eqb b (code "\r")) [] (b ∷ [])
kept (b ∷ c ∷ s) = b ∷ kept (c ∷ s)

unfoldable pub ended_line : Count → Text → Count
ended_line c line = with_record c (record_of (kept (contents line)))

abbrev pub sheet : Text → Count → Sheet
sheet line count = record { line = line; count = count }

abbrev pub after_byte : Sheet → ℕ → Sheet
after_byte s b = cond (ends_line b) (sheet (held []) (ended_line s.count s.line)) (sheet (with_byte s.line b) s.count)

-- ---- begun, taken, finished

unfoldable pub begun : Sheet
begun = sheet (held []) (good no_runs)

unfoldable pub taken : Sheet → List ℕ → Sheet
taken s [] = s
taken s (b ∷ part) = taken (after_byte s b) part

-- a last line that lacks its end
unfoldable pub last_counted : Sheet → Count
last_counted s = cond (eqb s.line.len 0) s.count (with_record s.count (record_of (contents s.line)))

abbrev pub lines : Standing → Tally → List ℕ
lines (Ok u) t = printed_of t
lines (Err refused) t = refused_line refused.number

unfoldable pub finished : Sheet → List ℕ
finished s = lines (last_counted s).standing (last_counted s).tally

-- ---- however the sheet is cut

unfoldable pub all_taken : Sheet → List (List ℕ) → Sheet
all_taken s [] = s
all_taken s (part ∷ parts) = all_taken (taken s part) parts

-- What comes out depends on the joined parts alone, and is the sheet of them. Ruled out: a byte 13 that is lost where it is cut from its
-- byte 10; a record that is counted twice, or not, at a cut; a total that wraps.
abbrev pub CutAnywhere : Type 0
CutAnywhere = (parts : List (List ℕ)) → finished (all_taken begun parts) ≡ sheet_of (joined parts)
