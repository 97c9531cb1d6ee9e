-- Whenever a statement asks for a string, at most 28 are unfinished with it.
use mathlib.Core.Path.{◌≡◌, refl}
use mathlib.Core.List.{List, [], ◌∷◌, ◌++◌}
use Prim.Native.Nat.{ℕ, suc, ◌+◌, ◌≤◌, max}
use native.Mathlib.Omega.{arith}
use lib.ListN.{length, length-append}
use Rattle.loader.specs.Lines.{Line}
use Rattle.grammar.specs.Trees as tree
use Rattle.grammar.specs.Trees.{Formula, Arguments, Variable, Item, Statement}
use Rattle.grammar.specs.Functions.{wants}
use Rattle.grammar.specs.Formulas.{count_of}
use Rattle.grammar.specs.declared.wanting.Want.{Want}
use Rattle.statements.specs.Parts.{item_formulas, formulas_of}
use Rattle.variables.specs.Strings.{Value, whole, text, Room}
use Rattle.variables.specs.Variables.{Variables}
use Rattle.operators.specs.Values.{taken, values_of}
use Rattle.machine.specs.Machine.{Machine}
use Rattle.runner.specs.Run.{Standing, at, turn}
use Rattle.promises.specs.StringSpace as asks
use Rattle.promises.specs.StringSpace.{Ask, texts_in, Asks, AsksAmong, PrintAsks, ReadAsks, StatementAsks, Begins}
use Rattle.promises.specs.Unfinished.{strings_held, all_strings, most_unfinished}
use Rattle.promises.specs.Requests.{at_once}
use Rattle.promises.proofs.Waiting.Needs.{wait_before, needs, needs_of, left_strings, values_good}
use Rattle.promises.proofs.Waiting.Nesting.{Fine, needs_few}
use Rattle.promises.proofs.Waiting.Reading.{Each}
use Rattle.promises.proofs.Waiting.Turns.{head_fine}
use Rattle.promises.proofs.Waiting.Runs.{StandingFine, turn_fine}

-- ---- the strings among values that wait

pub texts_count : (vs : List Value) → length (texts_in vs) ≡ all_strings vs
unfolding texts_in all_strings
texts_count [] = refl
texts_count (whole w ∷ vs) = omega (arith, texts_count vs)
texts_count (text b ∷ vs) = omega (arith, texts_count vs)

-- and those behind them
pub behind_count : (vs : List Value) (us : List (List ℕ)) → length (texts_in vs ++ us) ≡ all_strings vs + length us
behind_count vs us = omega (arith, length-append (texts_in vs) us, texts_count vs)

pub one_count : (v : Value) → all_strings (v ∷ []) ≡ strings_held v
unfolding all_strings
one_count v = omega arith

-- a function's arguments are no more strings than it wants
values_count : (a : Arguments) (ws : List Want) (vars : Variables) (room : Room) (vs : List Value) (after : Room)
    → values_of a ws vars room ≡ taken vs after → all_strings vs ≤ wait_before ws (count_of a)
values_count a ws vars room vs after e =
    let top = max room.highest (room.unfinished + needs_of a ws) in
    let h = rw e at (values_good top a ws vars room (omega arith) (omega arith)) in h.1

-- ---- formulas

mutual
  unfolding needs needs_of count_of wait_before

  formula_few : (vars : Variables) (f : Formula) (room : Room) (k : Ask) → Asks vars f room k → at_once k ≤ needs f
  formula_few vars (tree.variable n name) room k asks.read = omega arith
  formula_few vars (tree.text b) room k asks.quoted = omega arith
  formula_few vars (tree.inside f) room k (asks.within d) = formula_few vars f room k d
  formula_few vars (tree.minus f) room k (asks.negated d) = formula_few vars f room k d
  formula_few vars (tree.complement f) room k (asks.flipped d) = formula_few vars f room k d
  formula_few vars (tree.two_sided op f g) room k (asks.on_left d) = omega (arith, formula_few vars f room k d)
  formula_few vars (tree.two_sided op f g) room k (asks.on_right {after = r} {a = a} {k = j} e t d) =
      omega (arith, formula_few vars g r j d, behind_count (a ∷ []) j.unfinished, one_count a, left_strings op a t)
  formula_few vars (tree.two_sided op f g) room k (asks.joined e d s) = omega arith
  formula_few vars (tree.call f a) room k (asks.argued d) = omega (arith, arguments_few vars a (wants f (count_of a)) room k d)
  formula_few vars (tree.call f a) room k (asks.resulted {after = r} {vs = vs} e p s) =
      omega (arith, texts_count vs, values_count a (wants f (count_of a)) vars room vs r e)
  formula_few vars (tree.number _) room k x3 = elim x3 [ ]

  arguments_few : (vars : Variables) (a : Arguments) (ws : List Want) (room : Room) (k : Ask) → AsksAmong vars a ws room k
      → at_once k ≤ needs_of a ws
  arguments_few vars (tree.also a f) ws room k (asks.earlier d) = omega (arith, arguments_few vars a ws room k d)
  arguments_few vars (tree.also a f) ws room k (asks.here {after = r} {vs = vs} {k = j} e d) =
      omega (arith, formula_few vars f r j d, behind_count vs j.unfinished, values_count a ws vars room vs r e)
  arguments_few vars tree.none ws room k x'' = elim x'' [ ]

-- ---- statements

fine_few : {f : Formula} (m : Machine) (room : Room) (k : Ask) → Fine f → Asks m.variables f room k → at_once k ≤ most_unfinished
fine_few {f} m room k g d = omega (arith, needs_few g, formula_few m.variables f room k d)

items_few : (is : List Item) (m : Machine) (k : Ask) → PrintAsks is m k → Each Fine (item_formulas is) → at_once k ≤ most_unfinished
items_few (tree.shown f ∷ is) m k (asks.this_item d) g = fine_few m _ k g.0 d
items_few (tree.shown f ∷ is) m k (asks.after_item {n = n} e w d) g = items_few is n k d g.1
items_few (tree.comma ∷ is) m k (asks.after_comma {n = n} w d) g = items_few is n k d g
items_few (tree.semicolon ∷ is) m k (asks.after_semicolon d) g = items_few is m k d g
items_few [] m k x'' g = elim x'' [ ]

read_few : (vs : List Variable) (m o : Machine) (k : Ask) → ReadAsks vs m o k → at_once k ≤ most_unfinished
read_few (v ∷ vs) m o k (asks.this_variable q e) = omega arith
read_few (v ∷ vs) m o k (asks.after_variable {n = n} e g d) = read_few vs n o k d
read_few [] m o k x' = elim x' [ ]

statement_few : (lines : List Line) (place : ℕ) (x : Statement) (m o : Machine) (k : Ask) → StatementAsks lines place x m o k
    → Each Fine (formulas_of x) → at_once k ≤ most_unfinished
statement_few lines place (tree.assign v f) m o k (asks.assigned d) g = fine_few m _ k g.0 d
statement_few lines place (tree.print is) m o k (asks.printing d) g = items_few is m k d g
statement_few lines place (tree.if_then c p) m o k (asks.tested d) g = fine_few m _ k g.0 d
statement_few lines place (tree.if_else c p q) m o k (asks.chosen d) g = fine_few m _ k g.0 d
statement_few lines place (tree.for v from to by) m o k (asks.started t d) g = fine_few m _ k g.0 d
statement_few lines place (tree.for v from to by) m o k (asks.limited t e d) g = fine_few m _ k g.1.0 d
statement_few lines place (tree.for v from to by) m o k (asks.stepped t e c d) g = fine_few m _ k g.1.1.0 d
statement_few lines place (tree.while c) m o k (asks.repeated e d) g = fine_few m _ k g.0 d
statement_few lines place (tree.line_input t v) m o k (asks.input w e s) g = omega arith
statement_few lines place (tree.read vs) m o k (asks.reading d) g = read_few vs m o k d
statement_few lines place tree.empty m o k x3 g = elim x3 [ ]
statement_few lines place (tree.goto _) m o k x5 g = elim x5 [ ]
statement_few lines place (tree.gosub _) m o k x6 g = elim x6 [ ]
statement_few lines place tree.return m o k x6 g = elim x6 [ ]
statement_few lines place tree.next m o k x7 g = elim x7 [ ]
statement_few lines place (tree.next_of _) m o k x9 g = elim x9 [ ]
statement_few lines place tree.wend m o k x9 g = elim x9 [ ]
statement_few lines place (tree.data_of _) m o k x11 g = elim x11 [ ]
statement_few lines place tree.restore m o k x11 g = elim x11 [ ]
statement_few lines place (tree.restore_to _) m o k x13 g = elim x13 [ ]
statement_few lines place tree.end m o k x13 g = elim x13 [ ]
statement_few lines place tree.stop m o k x14 g = elim x14 [ ]
statement_few lines place tree.remark m o k x15 g = elim x15 [ ]

-- ---- a statement that a run begins

begun_fine : (program : List ℕ) (n : ℕ) (s : Standing) (ls : List Line) (q : ℕ) (x : Statement) (m : Machine) → Begins program n s ls q x m
    → StandingFine s → Each Fine (formulas_of x)
begun_fine program (suc n) (at m lines p) ls q x k asks.first h = (head_fine p h.1).0
begun_fine program (suc n) (at m lines p) ls q x k (asks.later d) h =
    begun_fine program n (turn program m lines p) ls q x k d (turn_fine program m lines p h.0 h.1)
begun_fine program Prim.Native.Nat.zero s ls q x k x4 h = elim x4 [ ]
begun_fine program (suc n) (Rattle.runner.specs.Run.finished _) ls q x k x9 h = elim x9 [ ]

pub begun_few : (program : List ℕ) (n : ℕ) (s : Standing) (ls : List Line) (q : ℕ) (x : Statement) (m o : Machine) (k : Ask)
    → Begins program n s ls q x m → StandingFine s → StatementAsks ls q x m o k → at_once k ≤ most_unfinished
begun_few program n s ls q x m o k b h d = statement_few ls q x m o k d (begun_fine program n s ls q x m b h)
