-- The range is the definition's, and the text is built.
use lib.ListN.{replicate}
use Rattle.strings.proofs.Produced.{made_as}
use Rattle.strings.proofs.Calls.{told_yes}
use Rattle.strings.proofs.making.filled.Goals as goal

pub returns : goal.returns
returns c ahead = let y = told_yes c.in_range.ensures c.if-not-in_range.false-raw in
    made_as (λ room. rw y) (c.built.ensures (replicate c.args.count c.args.byte) c.repeated.ensures ahead)
