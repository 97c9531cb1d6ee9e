-- A part of the space, byte by byte.
use mathlib.Core.Path.{◌≡◌, sym, ap, ◌∙◌}
use mathlib.Core.List.{List, [], ◌∷◌}
use Prim.Native.Nat.{ℕ, suc, ◌+◌, ◌≤◌, ◌<◌}
use native.Mathlib.Omega.{arith}
use native.Mathlib.Numerals.{add-one}
use lib.ListN.{length, take, drop, get_or, length-drop, drop_of_length-le}
use lib.Seq.{length-take-le, drop-cons, get_or-take, get_or-drop}

-- ---- a part of the space, from its i-th byte on

-- it is as long as was asked
pub part_length : (s : List ℕ) (at n : ℕ) → at + n ≤ length s → length (take n (drop at s)) ≡ n
part_length s at n h = let d = length-drop at s in length-take-le n (drop at s) (omega arith)

module _ (s : List ℕ) (at n i : ℕ) (h : at + n ≤ length s) where
  pub part_next : i < n → drop i (take n (drop at s)) ≡ get_or s (at + i) 0 ∷ drop (i + 1) (take n (drop at s))
  part_next l =
      let e = part_length s at n h in
      drop-cons (take n (drop at s)) i 0 (omega arith)
      ∙ ap (λ v. v ∷ drop (suc i) (take n (drop at s))) (get_or-take n (drop at s) i 0 l ∙ get_or-drop at s i 0)
      ∙ ap (λ k. get_or s (at + i) 0 ∷ drop k (take n (drop at s))) (sym (add-one i))

  pub part_end : n ≤ i → drop i (take n (drop at s)) ≡ []
  part_end l = let e = part_length s at n h in let g : length (take n (drop at s)) ≤ i = omega arith in drop_of_length-le (take n (drop at s)) g
