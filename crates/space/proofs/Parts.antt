-- What two slices share: where they have the same front, or the same end, each part that lies in it is the same.
use mathlib.Core.Path.{◌≡◌, sym, ap, ◌∙◌}
use mathlib.Core.List.{List, [], ◌∷◌, ◌++◌}
use Prim.Native.Nat.{ℕ, zero, suc, ◌+◌, ◌-◌, ◌≤◌}
use native.Mathlib.Nat.{zero-add, suc-add}
use native.Mathlib.Omega.{arith}
use lib.ListN.{take, drop}
use lib.Seq.{take-take, take-nil, take-add, drop-drop}

-- a part is the end of a front
drop-take : (at count : ℕ) (s : List ℕ) → drop at (take (at + count) s) ≡ take count (drop at s)
drop-take zero count s = rw zero-add
drop-take (suc at) count [] = rw (suc-add, take-nil)
drop-take (suc at) count (b ∷ s) = rw suc-add (drop-take at count s)

-- two parts, one after the other, are one
pub part_joined : (s : List ℕ) (at n m : ℕ) → take (n + m) (drop at s) ≡ take n (drop at s) ++ take m (drop (at + n) s)
part_joined s at n m = take-add n m (drop at s) ∙ rw drop-drop

module _ (s t : List ℕ) (n : ℕ) where
  -- the same front: a shorter one too
  pub front_less : (m : ℕ) → m ≤ n → take n s ≡ take n t → take m s ≡ take m t
  front_less m h e = sym (take-take m n s h) ∙ ap (take m) e ∙ take-take m n t h

  -- and each part that lies in it
  pub part_below : (at count : ℕ) → at + count ≤ n → take n s ≡ take n t → take count (drop at s) ≡ take count (drop at t)
  part_below at count h e = sym (drop-take at count s) ∙ ap (drop at) (front_less (at + count) h e) ∙ drop-take at count t

  -- the same end: a shorter one too
  pub end_less : (m : ℕ) → n ≤ m → drop n s ≡ drop n t → drop m s ≡ drop m t
  end_less m h e =
      let k : n + (m - n) ≡ m = omega arith in
      rw (← k) (sym (drop-drop (m - n) n s) ∙ ap (drop (m - n)) e ∙ drop-drop (m - n) n t)

  -- and each part that lies in it
  pub part_above : (at count : ℕ) → n ≤ at → drop n s ≡ drop n t → take count (drop at s) ≡ take count (drop at t)
  part_above at count h e = ap (take count) (end_less at h e)
