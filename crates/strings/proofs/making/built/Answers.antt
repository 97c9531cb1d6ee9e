-- The text's bytes are the first ones of its buffer.
use mathlib.Core.Path.{sym, ◌∙◌}
use Prim.Native.Nat.{◌≤◌}
use borrow.Author.Rules.{rules}
use borrow.Author.Tests.{leb-true, leb-false}
use Rattle.strings.proofs.Produced.{no_room_built, built_made}
use Rattle.whole.specs.Texts.{longest_string}
use Rattle.strings.proofs.making.built.Goals as goal

pub returns-then-not-grants : goal.returns-then-not-grants
returns-then-not-grants c l e ahead =
    let short : c.args.text.len ≤ longest_string = search rules in
    no_room_built c.args.space.now c.args.used.0 c.args.given c.requires ahead c.args.text (short) l e
    (leb-false _ _ (sym c.grants.ensures ∙ c.if-not-grants.true))

pub returns : goal.returns
returns c l e ahead =
    let short : c.args.text.len ≤ longest_string = search rules in
    built_made c.args.space.now c.args.used.0 c.args.given c.requires ahead c.args.text (short) l e
    (leb-true _ _ (sym c.grants.ensures ∙ c.if-not-grants.false))
    c.copy_in.ensures
