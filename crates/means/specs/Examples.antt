-- Worked examples, computed by the checker.
use Rattle.std.specs.Prelude.{◌≡◌, refl, List, [], ◌∷◌, map, ℕ}
use Rattle.means.specs.Means.{common_up_to, mean_of}
use Rattle.means.specs.declared.fractions.Mean.{Mean}

pub record Example : Type 0 where
  pub total : ℕ
  pub count : ℕ
  pub mean : Mean

abbrev example : ℕ → ℕ → ℕ → ℕ → Example
example total count above below = record { total = total; count = count; mean = record { total = above; count = below } }

pub means : List Example
means =
    -- no runs
    example 0 0 0 1
    -- no steps
    ∷ example 0 7 0 1
    ∷ example 6 1 6 1
    ∷ example 6 4 3 2
    ∷ example 4294967305 5 858993461 1
    ∷ example 7 12 7 12
    ∷ []

pub means_hold : map (λ (e : Example). mean_of e.total e.count) means ≡ map (λ (e : Example). e.mean) means
unfolding means common_up_to mean_of
means_hold = refl
