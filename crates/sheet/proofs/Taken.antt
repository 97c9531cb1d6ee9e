-- A part taken byte by byte.
use mathlib.Core.Path.{◌≡◌, sym, ap, ◌∙◌}
use mathlib.Core.List.{List, []}
use Prim.Native.Nat.{ℕ, ◌+◌, ◌≤◌, ◌<◌}
use borrow.Author.Tests.{ne_eqb}
use lib.ListN.{length, get_or, drop, drop_of_length-le}
use Rattle.whole.specs.Texts.{held, with_byte}
use Rattle.whole.specs.declared.texts.Text.{Text}
use Rattle.whole.proofs.Reading.{drop_next}
use Rattle.tallies.specs.declared.counting.Count.{Count}
use Rattle.sheet.specs.bridge.Taking.{ended_line, sheet, after_byte, taken}
use Rattle.sheet.specs.declared.taking.Sheet.{Sheet}

module _ (part : List ℕ) (i : ℕ) (line : Text) (count : Count) where
  module _ (h : i < length part) where
    -- byte 10 ends the line
    pub taken_end : get_or part i 0 ≡ 10 → taken (sheet (held []) (ended_line count line)) (drop (i + 1) part) ≡ taken (sheet line count) (drop i part)
    unfolding taken
    taken_end e = sym (ap (taken (sheet line count)) (drop_next part i h) ∙ rw e)

    -- any other belongs to it
    pub taken_byte : (get_or part i 0 ≡ 10 → ⊥)
        → taken (sheet (with_byte line (get_or part i 0)) count) (drop (i + 1) part) ≡ taken (sheet line count) (drop i part)
    unfolding taken
    taken_byte e =
        let b = get_or part i 0 in
        let other : after_byte (sheet line count) b ≡ sheet (with_byte line b) count = rw (ne_eqb b 10 e) in
        sym (ap (taken (sheet line count)) (drop_next part i h) ∙ ap (λ s. taken s (drop (i + 1) part)) other)

pub taken_none : (part : List ℕ) (i : ℕ) (s : Sheet) → length part ≤ i → taken s (drop i part) ≡ s
unfolding taken
taken_none part i s h = rw (drop_of_length-le part h)
