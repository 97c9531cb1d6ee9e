-- A word and three numbers are short.
use Rattle.std.proofs.Common.{arith}
use Rattle.run_recipe.proofs.Answering.{short_word}
use Rattle.run_recipe.proofs.answers.line_of.Goals as goal

pub returns : goal.returns
returns c =
    rw (c.word_of.ensures, c.from.ensures, c.number_in.ensures, c.standing_in.ensures, c.from-2.ensures) at (c.line.ensures (rw c.word_of.ensures (omega (arith, short_word c.args.outcome))))
