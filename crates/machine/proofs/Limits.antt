-- Numbers compared, and a loop's limit passed.
use Rattle.std.specs.Prelude.{Err, Ok, Result, ℕ}
use Rattle.whole.specs.declared.errors.Error.{Error}
use mathlib.Core.Path.{◌≡◌, refl}
use mathlib.Core.Bool.{Bool, true, false, not}
use Prim.Native.Nat.{ℕ}
use borrow.Author.Tests.{eq-eqb, ne_eqb}
use lib.Dec.{eqb}
use lib.Signed.{lt_z}
use Rattle.whole.specs.Whole.{num, say}
use Rattle.machine.specs.Machine.{passed}

-- whether an answer is a word other than 0
abbrev pub holds : Result ℕ Error → Bool
holds (Ok w) = not (eqb w 0)
holds (Err x) = false

-- a comparison's answer is just where it holds
pub says : (b : Bool) → holds (say b) ≡ b
says true = refl
says false = refl

module _ (w limit step : ℕ) where
  -- the limit is passed downwards,
  pub passed_down : lt_z (num step) (num 0) ≡ true → passed w limit step ≡ lt_z (num w) (num limit)
  unfolding passed num
  passed_down e = rw e

  -- never,
  pub passed_never : lt_z (num step) (num 0) ≡ false → step ≡ 0 → passed w limit step ≡ false
  unfolding passed num
  passed_never e z = rw (e, eq-eqb step 0 z)

  -- or upwards
  pub passed_up : lt_z (num step) (num 0) ≡ false → (step ≡ 0 → ⊥) → passed w limit step ≡ lt_z (num limit) (num w)
  unfolding passed num
  passed_up e z = rw (e, ne_eqb step 0 z)
