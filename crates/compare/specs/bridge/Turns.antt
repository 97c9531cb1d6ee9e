-- Bridge: the merge by turns, as the code does it over the next line of each text.
use Rattle.std.specs.Prelude.{Bool, true, false, cond, ◌||◌, List, [], ◌∷◌, ◌++◌, ℕ, ◌≤◌, length, None, Option, Some}
use Prim.Native.Char.{code}
use Rattle.words.specs.Places.{place}
use Rattle.words.specs.Spellings.{same_bytes}
use Rattle.words.specs.declared.places.LineNumber.{LineNumber}
use Rattle.loader.specs.Lines.{line_at}
use Rattle.loader.specs.declared.lines.LineSpan.{LineSpan}
use Rattle.loader.proofs.Spans.{body_at}
use Rattle.compare.specs.Differences.{by_order, order_of}
use Rattle.compare.specs.Records.{word_of, records_of}
use Rattle.compare.specs.declared.merging.Way.{Way}
use Rattle.compare.specs.declared.merging.Way.TheVariants.{Gone, New, Changed}
use Rattle.compare.specs.declared.merging.Difference.{Difference}
use Rattle.compare.specs.declared.merging.Heads.{Heads}
use Rattle.compare.specs.declared.merging.Turn.{Turn}

-- the first line of each text
abbrev pub first_heads : List ℕ → List ℕ → Heads
first_heads old new = record { old = line_at old (place 0); new = line_at new (place 0) }

-- whether there is a line
abbrev pub is_line : Option LineSpan → Bool
is_line (Some span) = true
is_line None = false

abbrev pub some_left : Heads → Bool
some_left heads = is_line heads.old || is_line heads.new

-- a line's number, and then the bytes after it, lie in its text
abbrev pub Lies : List ℕ → Option LineSpan → Type 0
Lies text (Some span) = (span.place.0 ≤ span.body.0) × (span.body.0 ≤ span.end.0) × (span.end.0 ≤ length text)
Lies text None = Unit {0}

-- ---- a turn

abbrev pub says : Way → LineNumber → Option Difference
says way number = Some (record { way = way; number = number })

-- the old line is passed, the new one, or both
abbrev pub gone_turn : List ℕ → LineSpan → Option LineSpan → Turn
gone_turn old o other = record { said = says Gone o.number; heads = record { old = line_at old o.next; new = other } }

abbrev pub new_turn : List ℕ → LineSpan → Option LineSpan → Turn
new_turn new n other = record { said = says New n.number; heads = record { old = other; new = line_at new n.next } }

abbrev pub both_turn : List ℕ → LineSpan → List ℕ → LineSpan → Turn
both_turn old o new n =
    record {
      said = cond (same_bytes (body_at old o) (body_at new n)) None (says Changed o.number);
      heads = record { old = line_at old o.next; new = line_at new n.next };
    }

abbrev pub pair_turn : List ℕ → LineSpan → List ℕ → LineSpan → Turn
pair_turn old o new n =
    by_order (order_of o.number.0 n.number.0) (λ _. gone_turn old o (Some n)) (λ _. new_turn new n (Some o))
    (λ _. both_turn old o new n)

abbrev pub turn_of : List ℕ → List ℕ → Option LineSpan → Option LineSpan → Turn
turn_of old new None None = record { said = None; heads = record { old = None; new = None } }
turn_of old new None (Some n) = new_turn new n None
turn_of old new (Some o) None = gone_turn old o None
turn_of old new (Some o) (Some n) = pair_turn old o new n

-- ---- what a turn says

abbrev pub said_in : Option Difference → List Difference
said_in None = []
said_in (Some d) = d ∷ []

abbrev pub records_in : Option Difference → List ℕ
records_in said = records_of (said_in said)

-- a record's word and its tab
abbrev pub begins : Way → List ℕ
begins way = word_of way ++ (code "\t" ∷ [])
