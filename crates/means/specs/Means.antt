-- The mean as two whole numbers in lowest terms, 0 and 1 for no runs.
use Rattle.std.specs.Prelude.{◌≡◌, Bool, cond, ◌&&◌, ℕ, zero, suc, ◌*◌, ◌/◌, ◌%◌, ◌<◌, eqb}
use Rattle.std.specs.Int.{◌∣◌}
use Rattle.means.specs.declared.fractions.Mean.{Mean}

-- a number divides another where nothing is left over
abbrev pub divides : ℕ → ℕ → Bool
divides d n = eqb (n % d) 0

-- the greatest of the numbers up to k that divides both a and b
unfoldable pub common_up_to : ℕ → ℕ → ℕ → ℕ
common_up_to a b zero = 1
common_up_to a b (suc k) = cond (divides (suc k) a && divides (suc k) b) (suc k) (common_up_to a b k)

-- none that divides b is greater than b
abbrev pub greatest_common : ℕ → ℕ → ℕ
greatest_common a b = common_up_to a b b

abbrev pub over : ℕ → ℕ → ℕ → Mean
over total count divisor = record { total = total / divisor; count = count / divisor }

-- a total over a count, both divided by what divides both
unfoldable pub mean_of : ℕ → ℕ → Mean
mean_of total count =
    cond (eqb count 0) (record { total = 0; count = 1 }) (over total count (greatest_common total count))

-- lowest terms: the quotient is the mean, and only 1 divides both
pub record Lowest (total count : ℕ) (mean : Mean) : Type 0 where
  pub quotient : mean.total * count ≡ total * mean.count
  pub alone : (d : ℕ) → d ∣ mean.total → d ∣ mean.count → d ≡ 1

-- Every mean is in lowest terms. Ruled out: a mean of 6 over 4; one that is only near.
abbrev pub MeansAreLowest : Type 0
MeansAreLowest = (total count : ℕ) → 0 < count → Lowest total count (mean_of total count)
