use Rattle.feeding.proofs.Giving.{made_storable}
use mathlib.Core.Path.{refl, sym, ap, ◌∙◌}
use borrow.Author.Tests.{not-true, not-false, leb-true, leb-false}
use Rattle.feeding.proofs.Giving.{set_state, sets_none, gives_full, sets_string, gives_string}
use Rattle.words.proofs.Tellings.{telling_told}
use Rattle.feeding.proofs.reading.give_string.Goals as goal

pub returns-then-not-has_room : goal.returns-then-not-has_room
returns-then-not-has_room c = let h = leb-false _ _ (sym c.has_room.ensures ∙ not-true c.has_room.result c.if-not-has_room.true-raw) in
    (λ text settled. (sets_none settled, gives_full settled _ (telling_told _) c.args.bytes.now text c.args.machine h), refl)

pub with_string-requires : goal.with_string-requires
with_string-requires c = made_storable c.args.space.now c.args.bytes.now c.requires.0.all c.copy_in.ensures (leb-true _ _ (sym c.has_room.ensures ∙ not-false c.has_room.result c.if-not-has_room.false-raw)) c.requires.1

pub returns : goal.returns
returns c = let h = leb-true _ _ (sym c.has_room.ensures ∙ not-false c.has_room.result c.if-not-has_room.false-raw) in (
  λ text settled.
      let k = c.with_string.ensures.0 in
      rw (set_state c.args.machine c.with_string.result c.set_or_full.ensures k, c.set_or_full.ensures, c.with_string.ensures.1, c.copy_in.ensures)
      (sets_string settled _ (telling_told _) c.args.bytes.now h, gives_string settled _ (telling_told _) c.args.bytes.now h text c.args.machine c.with_string.result _ (ap (λ x. x.ok) k)),
  ap (λ x. x.feed) (set_state c.args.machine c.with_string.result c.set_or_full.ensures c.with_string.ensures.0),
)
