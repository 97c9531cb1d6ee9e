-- The loop keeps that from the byte reached on the extent is the same.
use mathlib.Core.Path.{◌≡◌, sym, ap, ◌∙◌}
use mathlib.Core.Logic.{⊎_elim}
use mathlib.Core.List.{List}
use Prim.Native.Nat.{ℕ, ◌-◌}
use native.Mathlib.Omega.{arith}
use lib.ListN.{length, take, drop}
use Rattle.std.proofs.lemmas.Slice.{between_to_end}
use Rattle.whole.proofs.Numbers.{less}
use Rattle.loader.specs.Lines.{ending_of}
use Rattle.loader.proofs.Extents.{walk_on, walk_end, walk_out, ending_small}
use Rattle.loader.proofs.lines.extent_at.Goals as goal

-- what stands from a place on is the rest of the text
rest : (text : List ℕ) (at : ℕ) {n : ℕ} → n ≡ ending_of (take (length text - at) (drop at text)) → n ≡ ending_of (drop at text)
rest text at e = e ∙ ap ending_of (between_to_end text at (length text) (omega arith))

pub overflow_add-result : goal.overflow_add-result
overflow_add-result c = omega (arith, rest c.args.text.now c.loop-at.at c.ending-count.ensures, ending_small (drop c.loop-at.at c.args.text.now))

pub returns-then-count-ne0 : goal.returns-then-count-ne0
returns-then-count-ne0 c = sym (walk_end _ _ c.loop-at-test.true _ (rest c.args.text.now c.loop-at.at c.ending-count.ensures) c.if-count-ne0.true) ∙ c.loop-at.invariant

pub loop-at-preserved : goal.loop-at-preserved
loop-at-preserved c = sym (walk_on _ _ c.loop-at-test.true (sym (rest c.args.text.now c.loop-at.at c.ending-count.ensures) ∙ c.if-count-ne0.false)) ∙ c.loop-at.invariant

pub returns : goal.returns
returns c = let size = length c.args.text.now in
    ⊎_elim
    (λ h. let e : c.loop-at.at ≡ c.max.result = omega (arith, c.max.ensures) in
    rw (← e) (sym (walk_out _ _ c.loop-at-test.false) ∙ c.loop-at.invariant))
    (λ h. let e : c.args.start.0 ≡ c.max.result = omega (arith, c.max.ensures) in rw (← e) (sym (walk_out _ _ h)))
    (less c.args.start.0 size)
