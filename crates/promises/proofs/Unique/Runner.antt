-- The public functions of `runner`.
use mathlib.Core.Path.{◌≡◌, refl}
use denote.Triple.Clauses.{Lasts}
use Rattle.runner.proofs as runner
use Rattle.runner.specs.contracts as contracts
use Rattle.runner.specs.Run.{ran_of}
use Rattle.runner.specs.declared.running.Done.{Done}
use Rattle.runner.specs.declared.running.Ran.{Ran}
use Rattle.promises.specs.Calls.{Unique}
use Rattle.promises.proofs.Unique.{same, pair}

pub run : Unique runner.run.Kinds.ps runner.run.Kinds.r runner.run.Reads.Pre runner.run.Reads.Post
run κs a p z z' ws ws' e e' = (
  same e.0 e'.0,
  pair refl (pair refl (pair (same e.1.0 e'.1.0) (pair (same e.1.1.0 e'.1.1.0) (pair refl (pair (same e.1.1.1 e'.1.1.1) refl))))),
)

-- over tables that are lent
pub run_lent : Unique runner.run_lent.Kinds.ps runner.run_lent.Kinds.r runner.run_lent.Reads.Pre runner.run_lent.Reads.Post
run_lent κs a p z z' ws ws' e e' =
    let told : Done → Lasts contracts.run_lent.ended κs a → Ran = λ d l. ran_of d l.1.1.1.1.1.1.1.0 in
    let q : told z ws ≡ told z' ws' = same e.0 e'.0 in (
      λ i. record { outcome = (q i).outcome; steps = (q i).steps; written = (q i).written; taken = (q i).taken },
      pair refl (pair refl (pair (same e.1.0 e'.1.0) (pair (same e.1.1.0 e'.1.1.0) (pair refl (pair (same e.1.1.1 e'.1.1.1) (pair refl (pair (λ i. (q i).tables) refl))))))),
    )

pub run_with : Unique runner.run_with.Kinds.ps runner.run_with.Kinds.r runner.run_with.Reads.Pre runner.run_with.Reads.Post
run_with κs a p z z' ws ws' e e' = (same e.0 e'.0, pair refl (pair refl (pair (same e.1.0 e'.1.0) (pair (same e.1.1 e'.1.1) refl))))

pub is_refused : Unique runner.is_refused.Kinds.ps runner.is_refused.Kinds.r runner.is_refused.Reads.Pre runner.is_refused.Reads.Post
is_refused κs a p z z' ws ws' e e' = (same e e', refl)
