-- Whatever receipt is handed on, the buffer is as long as before.
use Rattle.std.specs.Prelude.{None, Option, Some}
use mathlib.Core.Path.{◌≡◌, refl, ap, ◌∙◌}
use mathlib.Core.List.{List}
use Prim.Native.Nat.{ℕ, ◌+◌, ◌≤◌}
use borrow.Author.Tests.{le-ltb, lt-ltb}
use lib.ListN.{length, length-replicate}
use Rattle.space.proofs.Bounds.{by_bound}
use Rattle.space.proofs.Frames.{copied-length, cleared-length}
use Rattle.loader.specs.Loading.{longest_text}
use Rattle.serial.specs.Receiving.{Held, Ended, with_part, at_end}
use Rattle.serial.specs.Received.{BuffersStayAsLong}
use Rattle.serial.proofs.Steps.{placed_past, placed_lies, taken_short, taken_more, loaded_long, loaded_cleared, finished_short, finished_more}

module _ (buffer : List ℕ) (wide : longest_text ≤ length buffer) where
  part_kept : (receipt : Option ℕ) (part : List ℕ) → length (with_part receipt buffer part).buffer ≡ length buffer
  part_kept None part = refl
  part_kept (Some n) part =
      by_bound (n + length part) longest_text
      (λ h. ap (λ (g : Held). length g.buffer) (placed_lies n buffer part h wide) ∙ copied-length buffer n part)
      (λ h. ap (λ (g : Held). length g.buffer) (placed_past n buffer part h))

  end_kept : (receipt : Option ℕ) → length (at_end receipt buffer).left ≡ length buffer
  end_kept None = length-replicate {0} {A = ℕ} (length buffer) 0
  end_kept (Some n) =
      by_bound n longest_text
      (λ h. ap (λ (e : Ended). length e.left) (loaded_cleared n buffer h wide _ refl) ∙ cleared-length buffer _)
      (λ h. ap (λ (e : Ended). length e.left) (loaded_long n buffer h) ∙ length-replicate {0} {A = ℕ} (length buffer) 0)

pub buffers_stay_as_long : BuffersStayAsLong
buffers_stay_as_long h part =
    let buffer = h.buffer in
    by_bound longest_text (length buffer)
    (λ w. let s = le-ltb (length buffer) longest_text w in (
      ap (λ (g : Held). length g.buffer) (taken_more h.receipt buffer part s) ∙ part_kept buffer w h.receipt part,
      ap (λ (e : Ended). length e.left) (finished_more h.receipt buffer s) ∙ end_kept buffer w h.receipt,
    ))
    (λ w. let s = lt-ltb (length buffer) longest_text w in (
      ap (λ (g : Held). length g.buffer) (taken_short h.receipt buffer part s),
      ap (λ (e : Ended). length e.left) (finished_short h.receipt buffer s),
    ))
