-- A line is missing just where the search does not find it.
use mathlib.Core.Path.{sym, ap, ◌∙◌}
use mathlib.Core.Bool.{not}
use Rattle.std.proofs.Math.Bool.{not-not}
use Rattle.checker.proofs.Missing.{missing_found}
use Rattle.checker.proofs.checking.is_missing.Goals as goal

pub returns : goal.returns
returns c =
    sym (not-not c.is_none.result) ∙ ap not (sym c.is_none.ensures)
    ∙ missing_found c.args.text.now c.in-Some.is c.find_line.ensures
