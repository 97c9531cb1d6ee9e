-- Nothing is put, or one line is.
use mathlib.Core.Path.{◌≡◌, refl, sym}
use mathlib.Core.List.{[], ◌∷◌}
use Prim.Native.Nat.{◌-◌, ◌≤◌}
use native.Mathlib.Nat.{add-zero}
use native.Mathlib.Omega.{arith}
use lib.ListN.{length}
use lib.Seq.{take-nil, take_all}
use Rattle.space.proofs.Overlaid.{overlaid_none, overlaid_one}
use Rattle.index.proofs.asking.put_if.Goals as goal

pub returns-then-not-calls : goal.returns-then-not-calls
returns-then-not-calls c = rw (c.if-not-calls.true, take-nil _, add-zero) record { value = refl; callers_after = sym (overlaid_none _ _) }

pub returns-then-callers-count : goal.returns-then-callers-count
returns-then-callers-count c = let none : length c.args.callers.now - c.args.count ≡ 0 = omega (arith, c.if-callers-count.true) in
    rw (none, add-zero) record { value = refl; callers_after = sym (overlaid_none _ _) }

pub returns : goal.returns
returns c = let room = length c.args.callers.now - c.args.count in
    let some : 1 ≤ room = omega (arith, c.if-callers-count.false) in
    rw (c.if-not-calls.false, take_all room (c.args.line ∷ []) some) record { value = refl; callers_after = sym (overlaid_one _ _ _ c.if-callers-count.false) }
