-- How a merge goes on past the line that comes first.
use mathlib.Core.Path.{◌≡◌, refl}
use mathlib.Core.List.{List, [], ◌∷◌, ◌++◌}
use Prim.Native.Nat.{ℕ, ◌<◌}
use borrow.Author.Tests.{lt-ltb, le-ltb}
use native.Mathlib.Omega.{arith}
use Rattle.loader.specs.Lines.{Line}
use Rattle.compare.specs.Differences.{number_in, differs, of_both, order_of, old_first, new_first, together, against, differences}
use Rattle.compare.specs.declared.merging.Way.TheVariants.{Gone, New}

-- ---- which number is smaller

pub old_first_lem : (o n : ℕ) → o < n → order_of o n ≡ old_first
old_first_lem o n h = rw (lt-ltb o n h)

pub new_first_lem : (o n : ℕ) → n < o → order_of o n ≡ new_first
new_first_lem o n h = rw (le-ltb o n (omega arith), lt-ltb n o h)

pub at_once : (o n : ℕ) → o ≡ n → order_of o n ≡ together
at_once o n e = rw (le-ltb o n (omega arith), le-ltb n o (omega arith))

-- ---- the first lines

-- with one edition at its end, the other's line comes first
pub old_alone : (o : Line) (os : List Line) → differences (o ∷ os) [] ≡ differs Gone o ∷ differences os []
unfolding differences against
old_alone o os = refl

pub new_alone : (n : Line) (ns : List Line) → differences [] (n ∷ ns) ≡ differs New n ∷ differences [] ns
unfolding differences
new_alone n ns = refl

module _ (o n : Line) (os ns : List Line) where
  pub old_passes : order_of (number_in o) (number_in n) ≡ old_first
      → differences (o ∷ os) (n ∷ ns) ≡ differs Gone o ∷ differences os (n ∷ ns)
  unfolding differences against
  old_passes e = rw e

  pub new_passes : order_of (number_in o) (number_in n) ≡ new_first
      → differences (o ∷ os) (n ∷ ns) ≡ differs New n ∷ differences (o ∷ os) ns
  unfolding differences against
  new_passes e = rw e

  pub both_pass : order_of (number_in o) (number_in n) ≡ together → differences (o ∷ os) (n ∷ ns) ≡ of_both o n ++ differences os ns
  unfolding differences against
  both_pass e = rw e
