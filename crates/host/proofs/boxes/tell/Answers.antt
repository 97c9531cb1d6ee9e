-- The answer by its numbers; the tables in the block, unless the run was refused.
use mathlib.Core.Path.{sym, ◌∙◌}
use Rattle.host.proofs.Kept.{refused_run, finished_run}
use Rattle.host.proofs.boxes.tell.Goals as goal

pub returns-then-is_refused : goal.returns-then-is_refused
returns-then-is_refused c = λ ran given is.
    refused_run ran _ given is _ _ (c.answer_of.ensures c.args.made.now) (sym c.is_refused.ensures ∙ c.if-is_refused.true)

pub returns : goal.returns
returns c = λ ran given is.
    finished_run ran _ given is _ _ (c.answer_of.ensures c.args.made.now) _
    (sym c.is_refused.ensures ∙ c.if-is_refused.false) c.write_block.ensures.0 c.write_block.ensures.1
