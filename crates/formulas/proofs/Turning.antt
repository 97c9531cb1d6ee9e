-- NOT on a word, so many times: twice is nothing.
use mathlib.Core.Path.{◌≡◌, refl, ap, ◌∙◌}
use mathlib.Core.Bool.{Bool, false, not, cond}
use Prim.Native.Nat.{ℕ, zero, suc, ◌≤◌}
use native.Mathlib.Omega.{arith}
use Rattle.whole.specs.Whole.{flipped}
use Rattle.words.proofs.Choices.{by_test}
use Rattle.expressions.specs.bridge.Nots.{turned}
use Rattle.formulas.specs.bridge.Memory.{flipped_by}

turned_more : (n : ℕ) (odd : Bool) → turned n (not odd) ≡ not (turned n odd)
unfolding turned
turned_more zero odd = refl
turned_more (suc n) odd = turned_more n (not odd)

pub flips : (n w : ℕ) → w ≤ 65535 → flipped_by n w ≡ cond (turned n false) (flipped w) w
unfolding flipped_by turned
flips zero w h = refl
flips (suc n) w h =
    ap flipped (flips n w h)
    ∙ by_test (turned n false)
    (λ e. rw (turned_more n false, e) (omega arith))
    (λ e. rw (turned_more n false, e))
