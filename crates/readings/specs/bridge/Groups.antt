-- Bridge: the lines of a file by their index, as the code takes them, and a test that the code's use of bits asks for.
-- The contracts of functions inside this crate cite it; the promises of reading_of and import_readings do not rest on it.
use Rattle.std.specs.Prelude.{◌≡◌, Bool, not, List, [], ◌++◌, ℕ, zero, suc, ◌+◌, ◌*◌, ◌/◌, ◌≤◌, length, take, get_or}
use Rattle.std.specs.Float.Ieee.{is_nan}
use Rattle.readings.specs.Values.{reading_of}
use Rattle.readings.specs.Lines.{line_of}
use Rattle.readings.specs.declared.lines.Line.{Line}
use Rattle.readings.specs.declared.values.Reading.{Reading}
use Rattle.readings.specs.declared.values.Reading.TheVariants.{Single, Double}

abbrev pub is_number : Reading → Bool
is_number (Single value) = not (is_nan value)
is_number (Double value) = not (is_nan value)

-- a line in its buffer: its bytes stand first
abbrev pub Holds : Line → List ℕ → Type 0
Holds line s = (take line.len line.bytes ≡ s) × (line.len ≡ length s) × (line.len ≤ 24) × (length line.bytes ≡ 24)

-- the line of four bytes
unfoldable pub line_for : List ℕ → List ℕ
line_for group = line_of (reading_of (get_or group 0 0) (get_or group 1 0) (get_or group 2 0) (get_or group 3 0))

-- the line of the group with an index
unfoldable pub line_at : List ℕ → ℕ → List ℕ
line_at file index =
    line_of
    (reading_of (get_or file (4 * index) 0) (get_or file (4 * index + 1) 0) (get_or file (4 * index + 2) 0) (get_or file (4 * index + 3) 0))

-- the lines of the first groups
unfoldable pub lines_to : List ℕ → ℕ → List ℕ
lines_to file zero = []
lines_to file (suc index) = lines_to file index ++ line_at file index

abbrev pub lines_of_groups : List ℕ → List ℕ
lines_of_groups file = lines_to file (length file / 4)
