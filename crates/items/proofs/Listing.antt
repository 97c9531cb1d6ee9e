-- All items of a statement: one at a time, within the line, and the token that follows them.
use Rattle.std.specs.Prelude.{None, Option, Some}
use Rattle.items.specs.declared.reading.Item.{Item}
use mathlib.Core.Path.{◌≡◌, refl, ap}
use mathlib.Core.Logic.{⊎_elim}
use mathlib.Core.List.{List}
use Prim.Native.Nat.{ℕ, zero, suc, ◌+◌, ◌-◌, ◌≤◌, ◌<◌}
use native.Mathlib.Omega.{arith}
use lib.ListN.{length}
use Rattle.whole.proofs.Numbers.{less}
use Rattle.words.proofs.Choices.{by_test}
use Rattle.items.specs.Items.{item_bytes, item_at, DataItems, bad, items, with_item, and_more, items_at, items_from}
use Rattle.items.proofs.Inside.{Kept, Over, kept_at, past_end}

module _ (line : List ℕ) (at : ℕ) where
  -- only what stands behind an item counts for those after it
  more_same : (r : Option Item) (f g : ℕ → DataItems) → Kept line at r → ((p : ℕ) → at < p → p ≤ length line → f p ≡ g p)
      → and_more line r f ≡ and_more line r g
  more_same None f g k h = refl
  more_same (Some i) f g k h =
      by_test i.more
      (λ e. let l = k.comma e in rw e (ap (with_item (item_bytes line i)) (h (i.end.0 + 1) (omega (arith, k.onward, k.before)) (omega arith))))
      (λ e. rw e)

-- as many items as bytes are left are enough
pub items_enough : (n m : ℕ) (line : List ℕ) (at : ℕ) → at ≤ length line → length line - at < n → length line - at < m
    → items_at n line at ≡ items_at m line at
unfolding items_at
items_enough zero m line at h p q = absurd (omega arith)
items_enough (suc n) zero line at h p q = absurd (omega arith)
items_enough (suc n) (suc m) line at h p q =
    more_same line at (item_at line at) (items_at n line) (items_at m line) (kept_at line at h)
    (λ k l r. items_enough n m line k r (omega arith) (omega arith))

-- so the items of a statement are its first, and those after its comma
pub items_step : (line : List ℕ) (at : ℕ) → at ≤ length line → items_from line at ≡ and_more line (item_at line at) (items_from line)
unfolding items_at
items_step line at h =
    more_same line at (item_at line at) (items_at (length line) line) (items_from line) (kept_at line at h)
    (λ k l r. items_enough (length line) (suc (length line)) line k r (omega arith) (omega arith))

-- wherever they begin
pub items_turn : (line : List ℕ) (at : ℕ) → items_from line at ≡ and_more line (item_at line at) (items_from line)
unfolding items_at
items_turn line at =
    ⊎_elim (λ h. items_step line at (omega arith)) (λ h. rw (past_end line at h)) (less at (length line))

-- they end within the line, where the statement is over
pub record Listed (line : List ℕ) (at end : ℕ) : Type 0 where
  pub onward : at ≤ end
  pub within : end ≤ length line
  pub over : Over line end

abbrev Ends : List ℕ → ℕ → DataItems → Type 0
Ends line at bad = Unit {0}
Ends line at (items l end) = Listed line at end

with_ends : (line : List ℕ) (at p : ℕ) (b : List ℕ) (x : DataItems) → at ≤ p → Ends line p x → Ends line at (with_item b x)
with_ends line at p b bad h k = tt
with_ends line at p b (items l end) h k = record { onward = omega (arith, k.onward); within = k.within; over = k.over }

more_ends : (line : List ℕ) (at : ℕ) (r : Option Item) (f : ℕ → DataItems) → Kept line at r → ((p : ℕ) → p ≤ length line → Ends line p (f p))
    → Ends line at (and_more line r f)
more_ends line at None f k h = tt
more_ends line at (Some i) f k h =
    let past : at ≤ i.end.0 = omega (arith, k.onward, k.before) in
    by_test i.more
    (λ e. let l = k.comma e in rw e (with_ends line at (i.end.0 + 1) (item_bytes line i) (f (i.end.0 + 1)) (omega arith) (h (i.end.0 + 1) (omega arith))))
    (λ e. let o = k.over e in rw e (record { onward = past; within = k.within; over = o }))

ends_at : (n : ℕ) (line : List ℕ) (at : ℕ) → at ≤ length line → Ends line at (items_at n line at)
unfolding items_at
ends_at zero line at h = tt
ends_at (suc n) line at h = more_ends line at (item_at line at) (items_at n line) (kept_at line at h) (λ p l. ends_at n line p l)

pub items_end : (n : ℕ) (line : List ℕ) (at : ℕ) → at ≤ length line → (l : List (List ℕ)) (end : ℕ) → items_at n line at ≡ items l end → Listed line at end
items_end n line at h l end e = rw e at (ends_at n line at h)

-- wherever they begin, they end no earlier
pub items_onward : (line : List ℕ) (at : ℕ) (l : List (List ℕ)) (end : ℕ) → items_from line at ≡ items l end → at ≤ end
unfolding items_at
items_onward line at l end e =
    ⊎_elim
    (λ h. let k : at ≤ length line = omega arith in (items_end (suc (length line)) line at k l end e).onward)
    (λ h. let f = rw (past_end line at h) at e in let g : at ≡ end = cc in omega arith)
    (less at (length line))
