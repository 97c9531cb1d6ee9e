-- What is copied in are the line's bytes (`line_laid`).
use Rattle.std.proofs.Common.{◌≤◌, rules, arith}
use Rattle.callers_of.proofs.Telling.{line_laid}
use Rattle.callers_of.proofs.answers.put_line.Goals as goal

pub returns : goal.returns
returns c =
    let short : c.args.line.len ≤ 255 = search rules in
    let copied = rw c.from-len.ensures at c.copy_in.ensures in
    rw c.from-len.ensures record {
      upper_bound = omega (arith, short);
      by_index = λ said e. line_laid c.args.out.now c.args.at said e (omega (arith, short, c.requires)) copied;
    }
