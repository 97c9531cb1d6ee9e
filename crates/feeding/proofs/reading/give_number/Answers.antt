use Rattle.std.specs.Prelude.{Err, Ok}
use Rattle.whole.specs.declared.errors.Error.TheVariants.{OutOfMemory}
use mathlib.Core.Path.{refl, sym, ap, ◌∙◌}
use Rattle.machine.specs.bridge.Holding.{state_of}
use Rattle.turns.specs.bridge.Turns.{number_kept}
use Rattle.turns.proofs.Storing.{stored_met}
use Rattle.feeding.proofs.Giving.{sets_none, gives_fault, sets_number, gives_number}
use Rattle.words.proofs.Tellings.{telling_told}
use Rattle.feeding.proofs.reading.give_number.Goals as goal

pub returns-in-Err : goal.returns-in-Err
returns-in-Err c = let e = sym c.number_item.ensures ∙ c.in-Err.is in
    (λ text space settled. (sets_none settled, gives_fault settled _ (telling_told _) c.args.bytes.now text c.args.machine e), refl)

pub returns-in-None : goal.returns-in-None
returns-in-None c = let e = sym c.number_item.ensures ∙ c.in-Ok.is in (
  λ text space settled.
      rw (ap (λ s. (number_kept (state_of c.args.machine c.args.tables.now) s).state) c.in-None.ensures) (
        sets_number settled _ (telling_told _) c.args.bytes.now c.in-Ok.word,
        gives_number settled _ (telling_told _) c.args.bytes.now c.in-Ok.word text (Err (c.args.machine, OutOfMemory)) (λ go. ap (λ s. stored_met s.ok go) c.in-None.ensures) e,
      ),
  refl,
)

pub returns-in-Some : goal.returns-in-Some
returns-in-Some c = let e = sym c.number_item.ensures ∙ c.in-Ok.is in (
  λ text space settled.
      rw (ap (λ s. (number_kept (state_of c.args.machine c.args.tables.now) s).state) c.in-Some.ensures) (
        sets_number settled _ (telling_told _) c.args.bytes.now c.in-Ok.word,
        gives_number settled _ (telling_told _) c.args.bytes.now c.in-Ok.word text (Ok c.args.machine) (λ go. ap (λ s. stored_met s.ok go) c.in-Some.ensures) e,
      ),
  refl,
)
