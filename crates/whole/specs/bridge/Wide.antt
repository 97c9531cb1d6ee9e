-- Bridge: numbers in the 32 bits in which the code works.
-- The contracts of functions inside this crate cite it; no demand and no promise of run, check_recipe or ask rests on it.
use Rattle.std.specs.Prelude.{◌<◌, ℤ}
use Rattle.std.specs.Int.Signed.{quot_z}
use Rattle.std.specs.Int.{w32}
use Rattle.std.proofs.Common.{SFits, to_z, of_z}

-- what the machine reads back of the bits of z
abbrev pub back : ℤ → ℤ
back z = to_z w32 (of_z w32 z)

-- a divisor, and a quotient that fits
abbrev pub Divides : ℤ → ℤ → Type 0
Divides x y = (0 < of_z w32 y) × SFits w32 (quot_z (back x) (back y))
