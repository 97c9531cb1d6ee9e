-- The loop keeps the number of the letters that it has passed, and that it has a byte for each of them below its 1.
use mathlib.Core.Path.{refl, sym, ap, ◌∙◌}
use mathlib.Core.List.{[], ◌∷◌, append-nil}
use Prim.Native.Nat.{◌≤◌}
use native.Mathlib.Omega.{arith}
use lib.ListN.{length}
use Rattle.words.specs.bridge.Packed.{packed}
use Rattle.words.proofs.Packing.{bound_room, bound_more, passes_on, passed_few}
use Rattle.words.proofs.vocabulary.pack.Goals as goal

pub loop-letter-init : goal.loop-letter-init
unfolding packed
loop-letter-init c = record {
  passed = [];
  all = sym (append-nil _ ∙ ap (λ i. i.iter.rest.now) c.into_iter-letter-iterator.ensures.into_iter_gives ∙ ap (λ i. i.rest.now) c.rev-letter-items.ensures.source ∙ c.iter.ensures.rest);
  room = omega arith;
  told = refl;
}

pub overflow_mul-number : goal.overflow_mul-number
overflow_mul-number c =
    let few : length c.loop-letter.invariant.passed ≤ 6 = passed_few _ _ _ _ c.loop-letter.invariant.all c.in-Some.ensures.steps c.requires in
    omega (arith, bound_room _ _ few c.loop-letter.invariant.room)

pub overflow_add-number : goal.overflow_add-number
overflow_add-number c =
    let few : length c.loop-letter.invariant.passed ≤ 6 = passed_few _ _ _ _ c.loop-letter.invariant.all c.in-Some.ensures.steps c.requires in
    omega (arith, bound_room _ _ few c.loop-letter.invariant.room)

pub loop-letter-preserved : goal.loop-letter-preserved
unfolding packed
loop-letter-preserved c = record {
  passed = c.in-Some.letter.now ∷ c.loop-letter.invariant.passed;
  all = passes_on _ _ _ _ c.loop-letter.invariant.all c.in-Some.ensures.steps;
  room = bound_more _ _ _ (omega arith) c.loop-letter.invariant.room;
  told = rw (c.from.ensures, c.capital.ensures, ← c.loop-letter.invariant.told);
}
