-- How a line is judged, by the bytes after its number, and where the ELSE of an IF leads in it.
use Rattle.std.specs.Prelude.{Bool, true, cond, List, ℕ, ltb, None, Option, Some, Result, Ok, Err}
use Rattle.words.specs.declared.places.Place.{Place}
use Rattle.words.specs.declared.symbols.Scanned.{Scanned}
use Rattle.words.specs.declared.symbols.Word.TheVariants.{Else}
use Rattle.grammar.specs.Tests.{is_keyword}
use Rattle.grammar.specs.Trees.{Part}
use Rattle.expressions.specs.Types.{deepest_nesting}
use Rattle.statements.specs.Parts.{statements_of, deepest_in, all_typed}
use Rattle.statements.specs.Statements.{LineReading, does_not_read, reads, read_line, PartReading, bad_part, good_part, part_of}
use Rattle.reader.specs.declared.lines.LineFault.{LineFault}
use Rattle.reader.specs.declared.lines.LineFault.TheVariants.{Unreadable, TooDeep}

-- ---- a line is judged whole

-- it doesn't read; else it is nested too deep; else it holds this part. Where a later paper says that a line does not read, a line too
-- deep is meant too
pub data Judgement : Type 0 where
  unreadable : Judgement
  too_deep : Judgement
  holds : Part → Judgement

-- nesting is at most 8 deep
abbrev pub judged_read : LineReading → Judgement
judged_read does_not_read = unreadable
judged_read (reads p) = cond (ltb deepest_nesting (deepest_in (statements_of p))) too_deep (holds p)

abbrev pub judgement : List ℕ → Judgement
judgement s = judged_read (read_line s)

-- what `judge` answers: of a line that holds a part, whether all its types are right
abbrev pub judged_as : Judgement → Result Bool LineFault
judged_as unreadable = Err Unreadable
judged_as too_deep = Err TooDeep
judged_as (holds p) = Ok (all_typed (statements_of p))

abbrev pub judged_of : List ℕ → Result Bool LineFault
judged_of s = judged_as (judgement s)

-- ---- where the ELSE of an IF leads, by the part before it

-- by the token that ends the part
abbrev pub else_at : Scanned → Option Place
else_at u = cond (is_keyword Else u.token) (Some u.next) None

abbrev pub else_after : PartReading → Option Place
else_after bad_part = None
else_after (good_part p u) = else_at u

-- by where the part begins
abbrev pub else_of : List ℕ → Place → Option Place
else_of s at = else_after (part_of s true at.0)
