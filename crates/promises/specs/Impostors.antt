-- A check that passes everything falls to demand 3.
use Rattle.std.specs.Prelude.{◌≡◌, Bool, true, List, ℕ}
use Rattle.machine.specs.Machine.{Lent}
use Rattle.runner.specs.Run.{run_of}
use Rattle.promises.specs.Passing.{ends_well}

-- what demand 3 asks of a check, whatever it is: by which texts does it pass
abbrev pub SparesRuns : (List ℕ → Bool) → Type 0
SparesRuns passes =
    (text input : List ℕ) (lent : Lent) (budget : ℕ) → passes text ≡ true → ends_well (run_of text input lent budget).ending ≡ true

-- No check that passes every text meets demand 3: there is a recipe whose run ends in 8. It does not say that ours meets it, which
-- `PassedRecipesEndWell` says. Ruled out: demand 3 said so weakly that a check which passes everything would meet it; an `ends_well` that
-- is true of every outcome.
abbrev pub PassingEverythingFalls : Type 0
PassingEverythingFalls = (passes : List ℕ → Bool) → ((text : List ℕ) → passes text ≡ true) → SparesRuns passes → ⊥
