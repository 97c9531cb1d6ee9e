-- Where a run goes on after the statement at a spot.
use Rattle.std.specs.Prelude.{Option}
use mathlib.Core.Path.{◌≡◌, refl, sym}
use mathlib.Core.Bool.{true, false≢true}
use mathlib.Core.List.{List, [], ◌∷◌}
use Prim.Native.Nat.{ℕ, ◌≤◌}
use native.Mathlib.Omega.{arith}
use borrow.Author.Tests.{ltb-false}
use lib.Dec.{ltb}
use Rattle.words.proofs.Choices.{by_test}
use Rattle.words.specs.declared.places.Place.{Place}
use Rattle.words.specs.declared.symbols.Scanned.{Scanned}
use Rattle.grammar.specs.Trees.{Statement, Part, last, more}
use Rattle.expressions.specs.Types.{deepest_nesting}
use Rattle.statements.specs.Statements.{begun_at, good_part, LineReading, does_not_read, reads, read_line}
use Rattle.reader.specs.Lines.{judged_read}
use Rattle.statements.specs.bridge.Answers.{begun_answer}
use Rattle.statements.specs.Statements.{part_of}
use Rattle.statements.specs.declared.reading.StatementRead.{StatementRead}
use Rattle.statements.proofs.Views.{Final, plain, thens, elses, more_view, final_view}
use Rattle.statements.specs.Parts.{Rest, nothing, tail_of, formulas_of, deepest, deepest_in, parts_of, statements_of}
use Rattle.statements.proofs.Depths.{rest_shallow}
use Rattle.machine.specs.bridge.Holding.{lines_at, body_of, Shallow, position_of, Begins, Positioned}
use Rattle.machine.specs.declared.positions.Position.{Position}
use Rattle.statements.proofs.Firsts.{true_part}
use Rattle.machine.specs.Order.{parts_held, Stand, past}
use Rattle.order.proofs.Laws.{Every, every_back, Throughout, throughout}
use Rattle.order.specs.bridge.Walking.{Ahead, past_read}
use Rattle.order.specs.declared.texts.Spot.{Spot}
use Rattle.order.proofs.Texting.{body_at, here_ahead, told, parting}

-- ---- the parts of a line that reads do not nest too deep

deep_every : {n : ℕ} (xs : List Statement) → deepest_in xs ≤ n → Every (λ x. deepest (formulas_of x) ≤ n) xs
unfolding deepest_in
deep_every [] h = tt
deep_every (x ∷ xs) h = (omega arith, deep_every xs (omega arith))

every_deep : {n : ℕ} (xs : List Statement) → Every (λ x. deepest (formulas_of x) ≤ n) xs → deepest_in xs ≤ n
unfolding deepest_in
every_deep [] h = omega arith
every_deep (x ∷ xs) h = let a = h.0 in let b = every_deep xs h.1 in omega arith

each_shallow : (ps : List Part) → Every (Throughout (λ x. deepest (formulas_of x) ≤ deepest_nesting)) ps → Every Shallow ps
each_shallow [] h = tt
each_shallow (p ∷ ps) h = (every_deep (statements_of p) h.0, each_shallow ps h.1)

shallow_by : (r : LineReading) → Every Shallow (parts_held (judged_read r))
shallow_by does_not_read = tt
shallow_by (reads p) =
    by_test (ltb deepest_nesting (deepest_in (statements_of p))) (λ t. rw t tt)
    (λ t. rw t (each_shallow (parts_of p)
    (throughout (λ x. deepest (formulas_of x) ≤ deepest_nesting) p (deep_every (statements_of p) (ltb-false deepest_nesting (deepest_in (statements_of p)) t)))))

-- ---- where a run goes on

module _ {text : List ℕ} (line : Place) (begins : Begins text line.0) where
  abbrev body : List ℕ
  body = body_of (lines_at text line.0)

  -- a position there has this left
  abbrev Goes : Position → Rest → Type 0
  Goes r rest = Positioned text r × (position_of text r ≡ record { lines = lines_at text line.0; rest = rest })

  -- the line is over
  goes_over : (at : Place) → Goes (record { line = line; at = at; over = true }) nothing
  goes_over at = (record { begins = begins; reads = λ h. absurd (false≢true (sym h)) }, refl)

  last_goes : (p q : ℕ) (x : Statement) (u : Scanned) → Final body true p q x u → Goes (past_read line (begun_answer (begun_at body true p))) nothing
  last_goes p q x u (plain f) = rw (f.begun, f.no_colon) (goes_over u.next)
  last_goes p q x u (thens f) = rw f.begun (goes_over line)
  last_goes p q x u (elses f) = rw f.begun (goes_over line)

  -- what is left of a part
  part_goes : (p : ℕ) (own : Part) (u : Scanned) → part_of body true p ≡ good_part own u → Shallow own
      → Goes (past_read line (begun_answer (begun_at body true p))) (tail_of own)
  part_goes p (last q x) u e low = last_goes p q x u (final_view body true p e)
  part_goes p (more q x r) u e low =
      let f = more_view body true p e in
      let g = true_part body f.end.next.0 f.goes in
      rw (f.begun, f.colon) (record { begins = begins; reads = λ _. record { of = r; end = u; is = g; shallow = rest_shallow q x r low } }, rw g)

pub past_spot : {text : List ℕ} {spot : Spot} {x : Stand} {xs : List Stand} {read : Option StatementRead} → Ahead text spot (x ∷ xs)
    → read ≡ begun_answer (begun_at (body_at text spot.line) true spot.at.0)
    → Positioned text (past_read spot.line.place read) × (position_of text (past_read spot.line.place read) ≡ past x)
past_spot {text} {spot} a e =
    let p = parting a in
    let t = told (here_ahead a) in
    let low = (every_back Shallow p.before (p.first ∷ p.others) (rw p.whole at (shallow_by (read_line (body_at text spot.line))))).0 in
    let g = part_goes spot.line.place a.begins spot.at.0 p.first p.end (rw t.body at p.reads) low in
    rw (e, t.body, p.is) g
