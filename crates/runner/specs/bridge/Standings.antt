-- Bridge: where the code stands in a run, by a row of the table of lines, beside where the definition does.
-- The contracts of functions inside this crate cite it; no demand and no promise of run, check_recipe or ask rests on it.
use Rattle.std.specs.Prelude.{◌≡◌, false, List, ℕ, ◌<◌, ◌-◌, take, drop, Ok, Some}
use Rattle.words.specs.declared.places.Place.{Place}
use Rattle.loader.specs.Lines.{line_at}
use Rattle.loader.specs.Loading.{load_of}
use Rattle.loader.specs.declared.lines.LineSpan.{LineSpan}
use Rattle.rows.specs.bridge.Rows.{count_of, span_in, Tabled}
use Rattle.rows.specs.declared.cells.Row.{Row}
use Rattle.machine.specs.Machine as spec
use Rattle.machine.specs.bridge.Holding.{lines_at, body_of, position_of, Begins, Parted, Positioned}
use Rattle.machine.specs.declared.positions.Next.{Next}
use Rattle.machine.specs.declared.positions.Next.TheVariants as next
use Rattle.turns.specs.Steps as step
use Rattle.runner.specs.Run as run
use Rattle.runner.specs.Run.{finished, ends_with, is_refused}
use Rattle.runner.specs.declared.running.Outcome.{Outcome}
use Rattle.runner.specs.declared.standing.Standing.{Standing}
use Rattle.runner.specs.declared.standing.Standing.TheVariants as standing

-- ---- a statement of a text that loads

-- the bytes after the number of a line
abbrev pub line_in : List ℕ → LineSpan → List ℕ
line_in text span = take (span.end.0 - span.body.0) (drop span.body.0 text)

-- one stands at a place of one of its lines
pub record Stood (text : List ℕ) (span : LineSpan) (at : Place) : Type 0 where
  pub loads : load_of text ≡ Ok tt
  pub begins : Begins text span.place.0
  pub spans : line_at text span.place ≡ Some span
  pub reads : Parted (body_of (lines_at text span.place.0)) at.0

-- ---- where a run stands

-- at a statement of a line
pub record AtAs (text : List ℕ) (span : LineSpan) (at : Place) (m : spec.Machine) (s : run.Standing) : Type 0 where
  pub stood : Stood text span at
  pub is : s ≡ run.at m (lines_at text span.place.0) stood.reads.of

-- or it is over, and was not refused
pub record OverAs (o : Outcome) (m : spec.Machine) (s : run.Standing) : Type 0 where
  pub begun : is_refused o ≡ false
  pub is : s ≡ finished (ends_with o m)

abbrev pub StandsAs : List ℕ → List ℕ → Standing → spec.Machine → run.Standing → Type 0
StandsAs text rows (standing.Over o) m s = OverAs o m s
StandsAs text rows (standing.At row at) m s = AtAs text (span_in rows row.0) at m s

-- the row is one of the table's
abbrev pub Rowed : List ℕ → Standing → Type 0
Rowed rows (standing.Over o) = Unit {0}
Rowed rows (standing.At row at) = row.0 < count_of rows

-- and whatever text it is the table of, where something is given of it, the code stands where the definition does
pub record StandsIn (rows : List ℕ) (r : Standing) (given : List ℕ → Type 0) (there : List ℕ → spec.Machine → run.Standing) : Type 0 where
  pub rowed : Rowed rows r
  pub stands : (text : List ℕ) → Tabled text rows → given text → (m : spec.Machine) → StandsAs text rows r m (there text m)

-- the row of the line at a place
pub record RowOf (rows : List ℕ) (line : Place) (row : Row) : Type 0 where
  pub inside : row.0 < count_of rows
  pub is : (text : List ℕ) → Tabled text rows → Begins text line.0 → (span_in rows row.0).place ≡ line

-- ---- where it goes on

-- the place exists
abbrev pub GoesTo : List ℕ → Next → Type 0
GoesTo text (next.On q) = Positioned text q
GoesTo text (next.Enter l) = Begins text l.0
GoesTo text next.Ends = Unit {0}
GoesTo text next.Stops = Unit {0}
GoesTo text (next.Fails e) = Unit {0}

-- as the definition says it
abbrev pub next_of : List ℕ → Next → spec.Machine → step.Next
next_of text (next.On q) m = step.goes_on m (position_of text q)
next_of text (next.Enter l) m = step.enters m (lines_at text l.0)
next_of text next.Ends m = step.ends m
next_of text next.Stops m = step.stops m
next_of text (next.Fails e) m = step.fails e m
