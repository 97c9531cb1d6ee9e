-- The records of WHILEs: which is a WHILE's own, and which is that of the WHILE that a WEND closes. A statement of a text is told by where its line
-- begins in the text and by its place in that line.
use Rattle.std.specs.Prelude.{Bool, false, ◌&&◌, List, [], ◌∷◌, ℕ, eqb}
use Rattle.loader.specs.Lines.{Line}
use Rattle.statements.specs.Parts.{Rest, nothing, part, place_of}
use Rattle.machine.specs.Machine.{Position, Record, loop, call, again}
use Rattle.machine.specs.Order.{Stand, Partner, none, some, wend_for}

-- where the first of some lines begins
abbrev pub start_of : List Line → ℕ
start_of [] = 0
start_of (l ∷ ls) = l.start

abbrev pub stands_at : ℕ → ℕ → Stand → Bool
stands_at line at s = eqb (start_of s.lines) line && eqb (place_of s.part) at

-- the statement that a run goes on at
abbrev pub is_at : ℕ → ℕ → Position → Bool
is_at line at p = by_rest p.rest
  where
    by_rest : Rest → Bool
    by_rest nothing = false
    by_rest (part q) = stands_at line at (record { lines = p.lines; part = q })

-- the record of the WHILE that stands there
abbrev pub is_while : ℕ → ℕ → Record → Bool
is_while line at (loop v limit step p) = false
is_while line at (call p) = false
is_while line at (again p) = is_at line at p

-- the WEND of the WHILE at a position
abbrev pub wend_of : Position → Partner
wend_of p = by_rest p.rest
  where
    by_rest : Rest → Partner
    by_rest nothing = none
    by_rest (part q) = wend_for (place_of q) p.lines

abbrev pub is_partner : ℕ → ℕ → Partner → Bool
is_partner line at none = false
is_partner line at (some s) = stands_at line at s

-- the record of the WHILE whose WEND stands there
abbrev pub is_while_of : ℕ → ℕ → Record → Bool
is_while_of line at (loop v limit step p) = false
is_while_of line at (call p) = false
is_while_of line at (again p) = is_partner line at (wend_of p)
