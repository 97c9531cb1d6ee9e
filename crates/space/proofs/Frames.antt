-- What each function leaves as it was, and what stands where it wrote.
use mathlib.Core.Path.{◌≡◌, refl, sym, ap, ◌∙◌}
use mathlib.Core.List.{List, [], ◌++◌, append-nil}
use Prim.Native.Nat.{ℕ, ◌+◌, ◌-◌, ◌≤◌, ◌<◌}
use native.Mathlib.Omega.{arith}
use borrow.Author.Tests.{le-leb, lt-leb}
use lib.ListN.{length, take, drop, replicate, length-drop, length-replicate, drop_of_length-le, take-append-drop}
use lib.Seq.{take_all, length-take-le, drop-drop}
use Rattle.space.specs.Moves.{overlaid, copied, moved, cleared}
use Rattle.space.proofs.Bounds.{by_bound}
use Rattle.space.proofs.Overlaid.{overlaid-length, overlaid_below, overlaid_above, overlaid_back, overlaid_bytes, overlaid_none}

-- ---- bytes copied in

module _ (space : List ℕ) (to : ℕ) (bytes : List ℕ) where
  -- where they lie in the slice they are laid over it
  pub copied_lies : to + length bytes ≤ length space → copied space to bytes ≡ overlaid space to bytes
  unfolding copied
  copied_lies h = rw (le-leb _ _ h)

  -- and otherwise it is as it was
  pub copied_past : length space < to + length bytes → copied space to bytes ≡ space
  unfolding copied
  copied_past h = rw (lt-leb _ _ h)

  -- so what holds in both cases holds
  copied_either : (P : List ℕ → Type 0)
      → (to + length bytes ≤ length space → P (overlaid space to bytes)) → P space → P (copied space to bytes)
  copied_either P y n =
      by_bound (to + length bytes) (length space) (λ h. rw (copied_lies h) (y h)) (λ h. rw (copied_past h) n)

  -- the slice is as long as it was
  pub copied-length : length (copied space to bytes) ≡ length space
  copied-length = copied_either (λ s. length s ≡ length space) (overlaid-length space to bytes) refl

  -- what stands below the bytes is kept
  pub copied_below : (n : ℕ) → n ≤ to → take n (copied space to bytes) ≡ take n space
  copied_below n b = copied_either (λ s. take n s ≡ take n space) (λ h. overlaid_below space to bytes (omega arith) n b) refl

  -- and what stands above them
  pub copied_above : (n : ℕ) → to + length bytes ≤ n → drop n (copied space to bytes) ≡ drop n space
  copied_above n a = copied_either (λ s. drop n s ≡ drop n space) (λ h. overlaid_above space to bytes (omega arith) n a) refl

  -- the bytes stand at the offset
  pub copied_bytes : to + length bytes ≤ length space → take (length bytes) (drop to (copied space to bytes)) ≡ bytes
  copied_bytes h = rw (copied_lies h) (overlaid_bytes space to bytes (omega arith))

-- to copy no bytes changes nothing
pub copied_none : (space : List ℕ) (to : ℕ) → copied space to [] ≡ space
copied_none space to = copied_either space to [] (λ s. s ≡ space) (λ h. overlaid_none space to) refl

-- ---- bytes moved

module _ (space : List ℕ) (from to count : ℕ) where
  abbrev part : List ℕ
  part = take count (drop from space)

  -- the bytes are as many as were asked for
  part_length : from + count ≤ length space → length part ≡ count
  part_length h = length-take-le count (drop from space) (simp length-drop (omega arith))

  -- where both places lie in the slice the bytes are laid over it
  pub moved_lies : from + count ≤ length space → to + count ≤ length space
      → moved space from to count ≡ overlaid space to (take count (drop from space))
  unfolding moved
  moved_lies h k = rw (le-leb _ _ h, le-leb _ _ k)

  -- where the bytes do not all lie in it, it is as it was
  pub moved_past_from : length space < from + count → moved space from to count ≡ space
  unfolding moved
  moved_past_from h = rw (lt-leb _ _ h)

  -- and so where the place that they go to does not
  pub moved_past_to : length space < to + count → moved space from to count ≡ space
  unfolding moved
  moved_past_to h =
      by_bound (from + count) (length space) (λ k. rw (le-leb _ _ k, lt-leb _ _ h)) moved_past_from

  -- so what holds in both cases holds
  moved_either : (P : List ℕ → Type 0)
      → (from + count ≤ length space → to + count ≤ length space → P (overlaid space to part)) → P space → P (moved space from to count)
  moved_either P y n =
      by_bound (from + count) (length space)
      (λ h. by_bound (to + count) (length space) (λ k. rw (moved_lies h k) (y h k)) (λ k. rw (moved_past_to k) n))
      (λ h. rw (moved_past_from h) n)

  -- the slice is as long as it was
  pub moved_length : length (moved space from to count) ≡ length space
  moved_length =
      moved_either (λ s. length s ≡ length space) (λ h k. overlaid-length space to part (omega (arith, part_length h))) refl

  -- what stands below the place moved to is kept
  pub moved_below : (n : ℕ) → n ≤ to → take n (moved space from to count) ≡ take n space
  moved_below n b = moved_either (λ s. take n s ≡ take n space) (λ h k. overlaid_below space to part (omega arith) n b) refl

  -- and what stands above it
  pub moved_above : (n : ℕ) → to + count ≤ n → drop n (moved space from to count) ≡ drop n space
  moved_above n a =
      moved_either (λ s. drop n s ≡ drop n space)
      (λ h k. overlaid_above space to part (omega arith) n (omega (arith, part_length h))) refl

  -- the bytes stand there
  pub moved_bytes : from + count ≤ length space → to + count ≤ length space
      → take count (drop to (moved space from to count)) ≡ take count (drop from space)
  moved_bytes h k =
      rw (moved_lies h k)
      (ap (λ n. take n (drop to (overlaid space to part))) (sym (part_length h)) ∙ overlaid_bytes space to part (omega arith))

-- to move no bytes changes nothing
pub moved_none : (space : List ℕ) (from to : ℕ) → moved space from to 0 ≡ space
moved_none space from to = moved_either space from to 0 (λ s. s ≡ space) (λ h k. overlaid_none space to) refl

-- nor does moving them to where they stand
pub moved_nowhere : (space : List ℕ) (at count : ℕ) → moved space at at count ≡ space
unfolding overlaid
moved_nowhere space at count =
    moved_either space at at count (λ s. s ≡ space)
    (λ h k. let l = part_length space at at count h in
    rw l (ap (λ s. take at space ++ (take count (drop at space) ++ s)) (sym (drop-drop count at space))
    ∙ ap (λ s. take at space ++ s) (take-append-drop count (drop at space)) ∙ take-append-drop at space))
    refl

-- ---- zeros to the end

module _ (space : List ℕ) (from : ℕ) where
  abbrev zeros : List ℕ
  zeros = replicate (length space - from) 0

  -- nothing stands above the zeros
  nothing_above : drop (from + length zeros) space ≡ []
  nothing_above =
      let h : length space ≤ from + length zeros = simp length-replicate (omega arith) in
      drop_of_length-le space h

  -- where the offset lies in the slice zeros are laid over it
  pub cleared_lies : from ≤ length space → cleared space from ≡ overlaid space from (replicate (length space - from) 0)
  unfolding cleared overlaid
  cleared_lies h = rw (nothing_above, append-nil)

  -- and otherwise it is as it was
  pub cleared_past : length space ≤ from → cleared space from ≡ space
  unfolding cleared
  cleared_past h =
      let e : length space - from ≡ 0 = omega arith in
      rw (e, take_all from space h, append-nil)

  -- so what holds in both cases holds
  cleared_either : (P : List ℕ → Type 0)
      → (from ≤ length space → P (overlaid space from zeros)) → (length space ≤ from → P space) → P (cleared space from)
  cleared_either P y n =
      by_bound from (length space) (λ h. rw (cleared_lies h) (y h)) (λ h. rw (cleared_past (omega arith)) (n (omega arith)))

  -- the slice is as long as it was
  pub cleared-length : length (cleared space from) ≡ length space
  cleared-length =
      cleared_either (λ s. length s ≡ length space) (λ h. overlaid-length space from zeros (simp length-replicate (omega arith))) (λ h. refl)

  -- what stands below the offset is kept
  pub cleared_below : (n : ℕ) → n ≤ from → take n (cleared space from) ≡ take n space
  cleared_below n b = cleared_either (λ s. take n s ≡ take n space) (λ h. overlaid_below space from zeros h n b) (λ h. refl)

  -- and zeros stand from it on
  pub cleared_zeros : drop from (cleared space from) ≡ replicate (length space - from) 0
  cleared_zeros =
      cleared_either (λ s. drop from s ≡ zeros) (λ h. overlaid_back space from zeros h ∙ rw (nothing_above, append-nil))
      (λ h. let e : length space - from ≡ 0 = omega arith in rw (e, drop_of_length-le space h))
