-- The loop keeps that the pairs from the one reached on tell what all of them do.
use mathlib.Core.Path.{refl, sym, ◌∙◌}
use native.Mathlib.Omega.{arith}
use Rattle.index.proofs.Strides.{named_here, named_later, named_none}
use Rattle.index.proofs.pairs.is_noted.Goals as goal

pub loop-i-init : goal.loop-i-init
loop-i-init c = refl

pub overflow_mul-i : goal.overflow_mul-i
overflow_mul-i c = omega arith

pub offset_bounds-pairs-i : goal.offset_bounds-pairs-i
offset_bounds-pairs-i c = omega arith

pub bounds-pairs-i : goal.bounds-pairs-i
bounds-pairs-i c = omega arith

pub returns-then-pairs-i : goal.returns-then-pairs-i
returns-then-pairs-i c = named_here _ _ _ _ c.loop-i-test.true c.if-pairs-i.true ∙ c.loop-i.invariant

pub loop-i-preserved : goal.loop-i-preserved
loop-i-preserved c = named_later _ _ _ _ c.loop-i-test.true c.if-pairs-i.false ∙ c.loop-i.invariant

pub returns : goal.returns
returns c = sym (named_none _ _ _ _ c.loop-i-test.false) ∙ c.loop-i.invariant
