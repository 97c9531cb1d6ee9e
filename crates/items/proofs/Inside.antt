-- What ends an item, and where items lie: within the line.
use Rattle.std.specs.Prelude.{None, Option, Some}
use mathlib.Core.Path.{◌≡◌, refl, sym, ◌∙◌}
use mathlib.Core.Logic.{◌⊎◌, inl, inr, ⊎_elim}
use mathlib.Core.Bool.{Bool, true, false, cond, ◌||◌, false≢true}
use mathlib.Core.List.{List}
use Prim.Native.Nat.{ℕ, ◌+◌, ◌≤◌, ◌<◌}
use native.Mathlib.Nat.{add-zero}
use native.Mathlib.Omega.{arith}
use borrow.Author.Tests.{ltb-true, eqb-true}
use lib.Dec.{ltb}
use lib.ListN.{length, get_or, drop, drop_of_length-le, get_or-eq_default}
use Rattle.whole.specs.Bytes.{is, leading}
use Rattle.whole.proofs.Numbers.{less}
use Rattle.whole.proofs.Reading.{drop_next}
use Rattle.words.proofs.Choices.{by_test}
use Rattle.words.proofs.Runs.{run_within, run_past}
use Rattle.scanner.specs.Runs.{passes}
use Rattle.scanner.specs.declared.runs.Run.TheVariants as run
use Rattle.items.specs.Items.{read, ended, after_blanks, quoted_item, cut, bare_item, item_at}
use Rattle.items.specs.declared.reading.Item.{Item}
use Rattle.items.proofs.Cutting.{cut_inside}

-- ---- what ends an item: the line's end, or the byte that stands there

module _ (line : List ℕ) (from n end : ℕ) where
  pub ended_past : length line ≤ end → ended line from n end ≡ read from n end false
  unfolding ended
  ended_past h = rw (drop_of_length-le line h)

  pub ended_here : end < length line → ended line from n end
      ≡ cond (is "," (get_or line end 0)) (read from n end true)
      (cond (is ":" (get_or line end 0) || is "'" (get_or line end 0)) (read from n end false) None)
  unfolding ended
  ended_here h = rw (drop_next line end h)

  pub ended_over : end < length line → (get_or line end 0 ≡ 58) ⊎ (get_or line end 0 ≡ 39) → ended line from n end ≡ read from n end false
  ended_over h = ⊎_elim (λ e. rw (ended_here h, e)) (λ e. rw (ended_here h, e))

-- a statement is over at the line's end, at a colon and at an apostrophe
abbrev pub Over : List ℕ → ℕ → Type 0
Over line end = (length line ≤ end) ⊎ ((get_or line end 0 ≡ 58) ⊎ (get_or line end 0 ≡ 39))

-- ---- what is shown of an item that was read at a place of a line

pub record Inside (line : List ℕ) (at : ℕ) (i : Item) : Type 0 where
  -- its bytes lie behind the place and before its end,
  pub onward : at ≤ i.from.0
  pub before : i.from.0 + i.len ≤ i.end.0
  -- which lies within the line,
  pub within : i.end.0 ≤ length line
  -- where a comma is a byte of it,
  pub comma : i.more ≡ true → i.end.0 < length line
  -- and what else ends an item ends the statement
  pub over : i.more ≡ false → Over line i.end.0

abbrev pub Kept : List ℕ → ℕ → Option Item → Type 0
Kept line at None = Unit {0}
Kept line at (Some i) = Inside line at i

one_of : (x y : Bool) → x || y ≡ true → (x ≡ true) ⊎ (y ≡ true)
one_of true y e = inl refl
one_of false y e = inr e

module _ (line : List ℕ) (at from n end : ℕ) (h : at ≤ from) (k : from + n ≤ end) (l : end ≤ length line) where
  more_kept : end < length line → Kept line at (read from n end true)
  more_kept m = record { onward = h; before = k; within = l; comma = λ _. m; over = λ e. absurd (false≢true (sym e)) }

  last_kept : Over line end → Kept line at (read from n end false)
  last_kept o = record { onward = h; before = k; within = l; comma = λ e. absurd (false≢true e); over = λ _. o }

  byte_over : (is ":" (get_or line end 0) || is "'" (get_or line end 0)) ≡ true → Over line end
  byte_over e = inr (⊎_elim (λ c. inl (eqb-true _ 58 c)) (λ c. inr (eqb-true _ 39 c)) (one_of _ _ e))

  ended_kept : Kept line at (ended line from n end)
  ended_kept =
      let b = get_or line end 0 in
      ⊎_elim
      (λ m. rw (ended_here line from n end m)
      (by_test (is "," b) (λ e. rw e (more_kept m))
      (λ e. rw e (by_test (is ":" b || is "'" b) (λ f. rw f (last_kept (byte_over f))) (λ f. rw f tt)))))
      (λ m. rw (ended_past line from n end m) (last_kept (inl m)))
      (less end (length line))

module _ (line : List ℕ) (at i : ℕ) (h : at ≤ i) where
  quoted_kept : Kept line at (quoted_item line i)
  unfolding quoted_item
  quoted_kept =
      let n = length (leading (passes run.Unquoted) (drop (i + 1) line)) in
      by_test (ltb (i + 1 + n) (length line))
      (λ e.
      let k = ltb-true (i + 1 + n) (length line) e in
      rw e (ended_kept line at (i + 1) n (after_blanks line (i + 1 + n + 1)) (omega arith) (omega arith) (run_within (passes run.Blank) line (i + 1 + n + 1) refl (omega arith))))
      (λ e. rw e tt)

  bare_kept : i ≤ length line → Kept line at (bare_item line i)
  unfolding bare_item
  bare_kept k =
      let s = leading (passes run.Item) (drop i line) in
      ended_kept line at i (length (cut s)) (i + length s) h (omega (arith, cut_inside s)) (run_within (passes run.Item) line i refl k)

pub kept_at : (line : List ℕ) (at : ℕ) → at ≤ length line → Kept line at (item_at line at)
unfolding item_at
kept_at line at h =
    let i = after_blanks line at in
    by_test (is "\"" (get_or line i 0)) (λ e. rw e (quoted_kept line at i (omega arith)))
    (λ e. rw e (bare_kept line at i (omega arith) (run_within (passes run.Blank) line at refl h)))

-- an item that was read lies within its line
pub item_inside : (line : List ℕ) (at : ℕ) → at ≤ length line → (i : Item) → item_at line at ≡ Some i → Inside line at i
item_inside line at h i e = rw e at (kept_at line at h)

-- past the line's end stands one empty item, and no other
pub past_end : (line : List ℕ) (at : ℕ) → length line ≤ at → item_at line at ≡ read at 0 at false
unfolding item_at bare_item cut leading
past_end line at h =
    let n = run_past (passes run.Blank) line at h in
    let i : after_blanks line at ≡ at = omega arith in
    let z = get_or-eq_default line 0 h in
    rw (i, z, drop_of_length-le line h, add-zero at) (ended_past line at 0 at h)

-- so wherever an item is read, a comma after it is a byte of the line, behind where it was read
pub comma_inside : (line : List ℕ) (at : ℕ) (i : Item) → item_at line at ≡ Some i → i.more ≡ true → (at ≤ i.end.0) × (i.end.0 < length line)
comma_inside line at i e m =
    ⊎_elim
    (λ h.
    let l : at ≤ length line = omega arith in
    let k = item_inside line at l i e in
    (omega (arith, k.onward, k.before), k.comma m))
    (λ h. let f = sym e ∙ past_end line at h in let g : i.more ≡ false = cc in absurd (false≢true (sym g ∙ m)))
    (less at (length line))
