-- One type more, and the deeper of two depths, are kept of one argument more.
use Rattle.expressions.proofs.Answering.{kept_also}
use Rattle.expressions.proofs.readers.Taken.with.Goals as goal

pub returns : goal.returns
returns c = kept_also c.args.self.sorts _ c.args.self.deepest _ c.args.argument.sort c.args.argument.deepest c.with_sort.ensures c.max.ensures
