-- Any words are a receipt, and one that was written in words and is read again is the same.
use Rattle.std.specs.Prelude.{None, Option, Some}
use mathlib.Core.Path.{◌≡◌, refl}
use Prim.Native.Nat.{ℕ}
use borrow.Author.Tests.{eq-eqb, ne_eqb}
use Rattle.host.specs.Receipts.{receipt_words, receipt_of, receipt_in}

module _ (first second : ℕ) where
  pub read_held : first ≡ 0 → receipt_of first second ≡ Some second
  unfolding receipt_of
  read_held e = rw (eq-eqb first 0 e)

  pub read_much : (first ≡ 0 → ⊥) → receipt_of first second ≡ None
  unfolding receipt_of
  read_much n = rw (ne_eqb first 0 n)

pub receipt_read_again : (r : Option ℕ) → receipt_in (receipt_words r) ≡ r
unfolding receipt_of
receipt_read_again (Some n) = refl
receipt_read_again None = refl
