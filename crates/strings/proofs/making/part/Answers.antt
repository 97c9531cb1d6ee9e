-- The bytes that are moved are those of the part, as far as the text goes.
use mathlib.Core.Path.{◌≡◌, sym, ◌∙◌}
use Prim.Native.Nat.{◌-◌, min}
use borrow.Author.Tests.{leb-true, leb-false}
use Rattle.strings.specs.bridge.Memory.{argument_length, first_of}
use Rattle.strings.proofs.Produced.{no_room_part, part_made}
use Rattle.strings.proofs.making.part.Goals as goal

pub returns-then-not-grants : goal.returns-then-not-grants
returns-then-not-grants c ahead =
    let kept : c.min-len.result ≡ min c.args.most (argument_length (first_of c.args.given) - c.min-start.result) = c.min-len.ensures ∙ rw c.first_length-all.ensures in
    let start : c.min-start.result ≡ min c.args.from (argument_length (first_of c.args.given)) = c.min-start.ensures ∙ rw c.first_length-all.ensures in
    no_room_part c.args.space.now c.args.used.0 c.args.given c.requires.0 ahead c.args.from c.args.most _ _ c.requires.1 (start) (kept)
    (leb-false _ _ (sym c.grants.ensures ∙ c.if-not-grants.true))

pub returns : goal.returns
returns c ahead =
    let kept : c.min-len.result ≡ min c.args.most (argument_length (first_of c.args.given) - c.min-start.result) = c.min-len.ensures ∙ rw c.first_length-all.ensures in
    let start : c.min-start.result ≡ min c.args.from (argument_length (first_of c.args.given)) = c.min-start.ensures ∙ rw c.first_length-all.ensures in
    part_made c.args.space.now c.args.used.0 c.args.given c.requires.0 ahead c.args.from c.args.most _ _ c.requires.1 (start) (kept)
    (leb-true _ _ (sym c.grants.ensures ∙ c.if-not-grants.false))
    c.move_bytes.ensures
