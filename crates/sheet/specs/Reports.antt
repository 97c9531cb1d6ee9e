-- The lines of a report in their buffer.
use Rattle.std.specs.Prelude.{◌≡◌, List, ◌++◌, ℕ, ◌+◌, ◌-◌, ◌≤◌, length, replicate}
use Rattle.sheet.specs.declared.reports.Report.{Report}

abbrev pub room : ℕ
room = 12288

-- the bytes of the lines, zeros after them, and how many they are
unfoldable pub report : List ℕ → Report
report l = record { bytes = l ++ replicate (room - length l) 0; len = length l }

-- lines more, where there is room for so many bytes
abbrev pub Lengthens : Report → Report → List ℕ → ℕ → Type 0
Lengthens old new more most = (l : List ℕ) → old ≡ report l → length l + most ≤ room → new ≡ report (l ++ more)
