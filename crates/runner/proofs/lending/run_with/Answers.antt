-- The records are its own: as many as are asked for, or one too many.
use Rattle.std.proofs.Common.{◌∙◌, rules}
use Rattle.std.proofs.Math.Seq.{length-take-le}
use Rattle.runner.proofs.Walking.{with_made}
use Rattle.runner.proofs.lending.run_with.Goals as goal

pub returns : goal.returns
returns c =
    let a = c.args in let r = c.run in
    with_made a.text.now a.input.now a.space.now a.room.now a.records a.budget a.tables _ r.result r.new.space r.new.room _
    (length-take-le _ _ (search rules) ∙ c.min-most.ensures) r.ensures
