-- A slice after a change, beside the slice before it: only so many bytes from an offset on may differ.
use mathlib.Core.Path.{◌≡◌, sym, ◌∙◌}
use mathlib.Core.List.{List}
use Prim.Native.Nat.{ℕ, ◌+◌, ◌-◌, ◌≤◌}
use native.Mathlib.Omega.{arith}
use lib.ListN.{length, take, drop, drop_of_length-le}
use Rattle.space.specs.Moves.{copied, moved, cleared}
use Rattle.space.proofs.Parts.{part_below, part_above}
use Rattle.space.proofs.Frames.{copied-length, copied_below, copied_above, moved_length, moved_below, moved_above, cleared-length, cleared_below}

pub record Kept (before : List ℕ) (at count : ℕ) (after : List ℕ) : Type 0 where
  -- the slice is as long as it was
  pub long : length after ≡ length before
  -- what stands below the bytes is as it was
  pub below : (n : ℕ) → n ≤ at → take n after ≡ take n before
  -- and what stands above them
  pub above : (n : ℕ) → at + count ≤ n → drop n after ≡ drop n before

-- bytes copied in change only as many, from the offset on
pub copied_kept : {s t : List ℕ} {to : ℕ} (bytes : List ℕ) → t ≡ copied s to bytes → Kept s to (length bytes) t
copied_kept {s} {to = to} bytes e =
    rw e
    (record {
      long = copied-length s to bytes;
      below = copied_below s to bytes;
      above = copied_above s to bytes;
    })

-- and so do bytes moved
pub moved_kept : {s t : List ℕ} (from : ℕ) {to count : ℕ} → t ≡ moved s from to count → Kept s to count t
moved_kept {s} from {to} {count} e =
    rw e
    (record {
      long = moved_length s from to count;
      below = moved_below s from to count;
      above = moved_above s from to count;
    })

-- and zeros, those to the end
pub cleared_kept : {s t : List ℕ} {from : ℕ} → t ≡ cleared s from → Kept s from (length s - from) t
cleared_kept {s} {from = from} e =
    rw e
    (record {
      long = cleared-length s from;
      below = cleared_below s from;
      above = λ n h. let l = cleared-length s from in
          let a : length (cleared s from) ≤ n = omega arith in
          let b : length s ≤ n = omega arith in
          drop_of_length-le (cleared s from) a ∙ sym (drop_of_length-le s b);
    })

module _ {s t : List ℕ} {at count : ℕ} (k : Kept s at count t) where
  -- a part below the bytes is as it was
  pub kept_below : (i n : ℕ) → i + n ≤ at → take n (drop i t) ≡ take n (drop i s)
  kept_below i n h = part_below t s at i n h (k.below at (omega arith))

  -- and a part above them
  pub kept_above : (i n : ℕ) → at + count ≤ i → take n (drop i t) ≡ take n (drop i s)
  kept_above i n h = part_above t s (at + count) i n h (k.above (at + count) (omega arith))

  -- a change of fewer bytes is one of more
  pub kept_wider : (b m : ℕ) → b ≤ at → at + count ≤ b + m → Kept s b m t
  kept_wider b m l h =
      record { long = k.long; below = λ n u. k.below n (omega arith); above = λ n u. k.above n (omega arith) }

  -- and so is one change after the other
  pub kept_then : {u : List ℕ} → Kept t at count u → Kept s at count u
  kept_then l =
      record {
        long = l.long ∙ k.long;
        below = λ n h. l.below n h ∙ k.below n h;
        above = λ n h. l.above n h ∙ k.above n h;
      }
