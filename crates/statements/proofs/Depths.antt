-- How deep the parts of a part nest: no deeper than it does.
use mathlib.Core.Path.{◌≡◌, refl, ap}
use mathlib.Core.List.{List, [], ◌∷◌, ◌++◌}
use Prim.Native.Nat.{ℕ, max, ◌≤◌}
use native.Mathlib.Omega.{arith}
use Rattle.grammar.specs.Trees.{Formula, Statement, if_then, if_else, Part, last, more}
use Rattle.statements.specs.Parts.{head_of, formulas_of, deepest, deepest_in, heads, parts_of, parts_within, statements_of}

pub heads_append : (xs ys : List Part) → heads (xs ++ ys) ≡ heads xs ++ heads ys
unfolding heads
heads_append [] ys = refl
heads_append (x ∷ xs) ys = ap (λ l. head_of x ∷ l) (heads_append xs ys)

deepest_join : (xs ys : List Statement) → deepest_in (xs ++ ys) ≡ max (deepest_in xs) (deepest_in ys)
unfolding deepest_in
deepest_join [] ys = omega arith
deepest_join (x ∷ xs) ys = let e = deepest_join xs ys in omega arith

-- those of some parts, and of others after them
parts_join : (xs ys : List Part) → deepest_in (heads (xs ++ ys)) ≡ max (deepest_in (heads xs)) (deepest_in (heads ys))
parts_join xs ys = rw (heads_append xs ys) (deepest_join (heads xs) (heads ys))

module _ {n : ℕ} where
  -- the first statement's formulas,
  pub head_shallow : (p : Part) → deepest_in (statements_of p) ≤ n → deepest (formulas_of (head_of p)) ≤ n
  unfolding parts_of heads deepest_in
  head_shallow (last q x) h = omega arith
  head_shallow (more q x rest) h = omega arith

  -- the statements after it,
  pub rest_shallow : (q : ℕ) (x : Statement) (rest : Part) → deepest_in (statements_of (more q x rest)) ≤ n → deepest_in (statements_of rest) ≤ n
  unfolding parts_of heads deepest_in
  rest_shallow q x rest h = omega (arith, parts_join (parts_within x) (parts_of rest))

  -- and the parts of an IF
  pub then_shallow : (q : ℕ) (c : Formula) (p : Part) → deepest_in (statements_of (last q (if_then c p))) ≤ n → deepest_in (statements_of p) ≤ n
  unfolding parts_of parts_within heads deepest_in
  then_shallow q c p h = omega arith

  pub else_shallow : (q : ℕ) (c : Formula) (p r : Part) → deepest_in (statements_of (last q (if_else c p r))) ≤ n
      → (deepest_in (statements_of p) ≤ n) × (deepest_in (statements_of r) ≤ n)
  unfolding parts_of parts_within heads deepest_in
  else_shallow q c p r h = let e = parts_join (parts_of p) (parts_of r) in (omega arith, omega arith)
