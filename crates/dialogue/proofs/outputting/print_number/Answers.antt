-- The number's text is the front of its buffer.
use mathlib.Core.Path.{◌≡◌, sym, ap, ◌∙◌}
use Prim.Native.Nat.{◌≤◌}
use native.Mathlib.Omega.{arith}
use borrow.Author.Rules.{rules}
use lib.ListN.{length}
use lib.Seq.{length-take-le}
use Rattle.whole.specs.Texts.{printed_number, longest_string}
use Rattle.space.specs.Moves.{copied}
use Rattle.machine.specs.bridge.Holding.{printed_as}
use Rattle.dialogue.proofs.Printing.{held_front}
use Rattle.dialogue.proofs.outputting.print_number.Goals as goal

pub slice_bounds-bytes-end : goal.slice_bounds-bytes-end
slice_bounds-bytes-end c =
    let short : c.print_text-text.result.len ≤ longest_string = search rules in
    let long : length c.print_text-text.result.bytes ≡ longest_string = search rules in
    omega (arith, long, short)

pub slice_bounds-write-end : goal.slice_bounds-write-end
slice_bounds-write-end c =
    let short : c.print_text-text.result.len ≤ longest_string = search rules in
    let long : length c.print_text-text.result.bytes ≡ longest_string = search rules in
    sym (length-take-le _ _ (omega (arith, long, short)))

pub returns : goal.returns
returns c = let e = held_front (printed_number c.args.word) c.print_text-text.ensures in
    (c.write.ensures.0 ∙ ap (printed_as c.args.printer (length c.args.room.now)) e, c.write.ensures.1 ∙ ap (copied c.args.room.now c.args.printer.written) e)
