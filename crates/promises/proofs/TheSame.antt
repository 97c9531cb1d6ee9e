-- What `specs/Calls.antt` writes out is what the toolchain made of the contracts: a contract that says less breaks its line.
use mathlib.Core.Path.{◌≡◌, refl}
use seplogic.Ra.Ura.{Ura}
use base.Logic.{SProp}
use prog.Memory.{Memory}
use prog.Routine.{Routine}
use types.Logic.{Logic}
use contract.Lifetimes.{Lfts}
use contract.Monad.{Fun}
use denote.Triple.Entry.{Args, Res}
use denote.Triple.Clauses.{AtExit}
use Rattle.calls.specs.Lent as lent
use Rattle.runner.specs.contracts as runner
use Rattle.checker.specs.contracts as checker
use Rattle.asking.specs.contracts as asking
use Rattle.host.specs.contracts as host
use Rattle.runner.proofs as made_runner
use Rattle.checker.proofs as made_checker
use Rattle.asking.proofs as made_asking
use Rattle.host.proofs as made_host
use Rattle.promises.specs.Calls.{RunAllows, CheckAllows, AskAllows, BoxAllows, CheckBoxAllows, AskBoxAllows}

pub run : (κs : Lfts runner.run.signature.lifetimes) (a : Args runner.run.signature κs) (r : Res runner.run.signature κs) (e : AtExit runner.run.ended κs)
    → made_runner.run.Reads.Post κs a r e ≡ RunAllows κs a r e
run κs a r e = refl

pub check_recipe : (κs : Lfts checker.check_recipe.signature.lifetimes) (a : Args checker.check_recipe.signature κs) (r : Res checker.check_recipe.signature κs) (e : AtExit checker.check_recipe.ended κs)
    → made_checker.check_recipe.Reads.Post κs a r e ≡ CheckAllows κs a r e
check_recipe κs a r e = refl

pub ask : (κs : Lfts asking.ask.signature.lifetimes) (a : Args asking.ask.signature κs) (r : Res asking.ask.signature κs) (e : AtExit asking.ask.ended κs)
    → made_asking.ask.Reads.Post κs a r e ≡ AskAllows κs a r e
ask κs a r e = refl

pub quernhem_run : (κs : Lfts host.quernhem_run.signature.lifetimes) (a : Args host.quernhem_run.signature κs) (r : Res host.quernhem_run.signature κs) (e : AtExit host.quernhem_run.ended κs)
    → made_host.quernhem_run.Reads.Post κs a r e ≡ BoxAllows κs a r e
quernhem_run κs a r e = refl

pub quernhem_check : (κs : Lfts host.quernhem_check.signature.lifetimes) (a : Args host.quernhem_check.signature κs) (r : Res host.quernhem_check.signature κs) (e : AtExit host.quernhem_check.ended κs)
    → made_host.quernhem_check.Reads.Post κs a r e ≡ CheckBoxAllows κs a r e
quernhem_check κs a r e = refl

pub quernhem_ask : (κs : Lfts host.quernhem_ask.signature.lifetimes) (a : Args host.quernhem_ask.signature κs) (r : Res host.quernhem_ask.signature κs) (e : AtExit host.quernhem_ask.ended κs)
    → made_host.quernhem_ask.Reads.Post κs a r e ≡ AskBoxAllows κs a r e
quernhem_ask κs a r e = refl

-- ---- and the two of the run, what the `ensures` itself says

module _ {M : Type 1} {𝓤 : Ura M} (𝓛 : Logic 𝓤) (mem : Memory → SProp 𝓤) (routine : Routine → Fun 𝓤) where
  pub run_says : lent.Says 𝓤 runner.run.ended (runner.run.clauses 𝓛 mem routine) RunAllows
  run_says κs a g r e = refl

  pub quernhem_run_says : lent.Says 𝓤 host.quernhem_run.ended (host.quernhem_run.clauses 𝓛 mem routine) BoxAllows
  quernhem_run_says κs a g r e = refl
