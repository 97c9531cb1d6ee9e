-- Where a run can go on, if something holds of all statements of the lines that it runs: it holds of the statements there too.
use mathlib.Core.Path.{◌≡◌}
use mathlib.Core.List.{List, [], ◌∷◌}
use Prim.Native.Nat.{ℕ}
use Rattle.words.proofs.Choices.{by_test}
use Rattle.loader.specs.Lines.{Line, has, number_of, from_number, next_line}
use Rattle.grammar.specs.Trees.{Formula, while, Statement, Part, last, more}
use Rattle.statements.specs.Parts.{head_of, tail_of, Rest, nothing, part, parts_of, parts_within, heads, statements_of}
use Rattle.statements.proofs.Depths.{heads_append}
use Rattle.machine.specs.Machine.{Position, Record, back_of}
use Rattle.machine.specs.Order.{Stand, later, Bracket, some, past, partner}
use Rattle.order.proofs.Laws.{Every, every_front, every_back, Throughout, LinesThroughout, StandThroughout, later_throughout, later_lines, partner_one}
use Rattle.turns.specs.Steps.{part_begun}

module _ (P : Statement → Type 0) where
  abbrev pub RestThroughout : Rest → Type 0
  RestThroughout nothing = Unit {0}
  RestThroughout (part p) = Throughout P p

  abbrev pub PositionThroughout : Position → Type 0
  PositionThroughout p = LinesThroughout P p.lines × RestThroughout p.rest

  -- where a record comes back to
  abbrev pub RecordThroughout : Record → Type 0
  RecordThroughout r = PositionThroughout (back_of r)

  -- the first statement of a part, the parts of that, and what is left
  pub head_throughout : (p : Part) → Throughout P p → P (head_of p) × Every P (heads (parts_within (head_of p))) × RestThroughout (tail_of p)
  unfolding parts_of heads
  head_throughout (last q x) h = (h.0, h.1, tt)
  head_throughout (more q x rest) h =
      let k = rw (heads_append (parts_within x) (parts_of rest)) at h.1 in
      (h.0, every_front P (heads (parts_within x)) (statements_of rest) k, every_back P (heads (parts_within x)) (statements_of rest) k)

  -- the lines from a number on are some of them, and so are those after the first
  pub from_throughout : (n : ℕ) (ls : List Line) → LinesThroughout P ls → LinesThroughout P (from_number n ls)
  unfolding from_number
  from_throughout n [] h = tt
  from_throughout n (l ∷ ls) h = by_test (has n (number_of l.bytes)) (λ e. rw e h) (λ e. rw e (from_throughout n ls h.1))

  pub next_throughout : (ls : List Line) → LinesThroughout P ls → LinesThroughout P (next_line ls)
  next_throughout [] h = tt
  next_throughout (l ∷ ls) h = h.1

  -- the NEXT of a FOR, or the WEND of a WHILE
  pub partner_throughout : (test : Statement → Bracket) (at : ℕ) (lines : List Line) → LinesThroughout P lines → (x : Stand)
      → partner test 0 (later at lines) ≡ some x → PositionThroughout (past x)
  partner_throughout test at lines h x e =
      let own = partner_one (StandThroughout P) test 0 (later at lines) (later_throughout P at lines h) x e in
      let there = partner_one (λ y. LinesThroughout P y.lines) test 0 (later at lines) (later_lines (LinesThroughout P) (λ l ls k. k.1) at lines h) x e in
      (there, (head_throughout x.part own).2)

  -- a WHILE itself, with what is left after it
  pub here_throughout : (at : ℕ) (c : Formula) (r : Rest) → P (while c) → RestThroughout r → RestThroughout (part (part_begun at (while c) r))
  unfolding parts_of heads
  here_throughout at c nothing g h = (g, tt)
  here_throughout at c (part p) g h = (g, h)
