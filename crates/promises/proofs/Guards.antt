-- What `run_checked` promises, over its contract.
use mathlib.Core.Path.{◌≡◌, sym, ap, ◌∙◌}
use mathlib.Core.Bool.{true}
use Rattle.runner.specs.declared.running.Outcome.{Outcome}
use Rattle.promises.specs.Calls.{Call}
use Rattle.promises.specs.Guarded.{ends_checked}
use Rattle.promises.specs.Passing.{ends_well}
use Rattle.std.specs.Prelude.{Ok}
use Rattle.promises.proofs.guarding.run_checked.Kinds as kinds
use Rattle.promises.proofs.guarding.run_checked.Reads as reads

abbrev pub CheckedCall : Type 0
CheckedCall = Call kinds.ps kinds.r reads.Post

-- Demand 3 over the contract alone: whatever is passed to `run_checked`, a run of it never ends in 2, 8, 13 or 16.
pub checked_calls_end_well : (c : CheckedCall) (o : Outcome) → c.answer.outcome ≡ Ok o → ends_well o ≡ true
checked_calls_end_well c o h = sym (ap ends_checked h) ∙ c.allowed.1.1.1
