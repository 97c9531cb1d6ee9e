-- What is no whole number is a text or an error.
use Rattle.whole.specs.Whole.{applied}
use Rattle.operators.proofs.Sides.{answer_gives}
use Rattle.operators.proofs.applying.beside_whole.Goals as goal

pub returns : goal.returns
returns c space used =
    rw (c.in_ok-b.was, c.in-Whole.is, c.answered.ensures, c.apply.ensures)
    (answer_gives (applied c.args.operator c.args.a c.in-Whole.b) c.in-Whole.ahead space used)
