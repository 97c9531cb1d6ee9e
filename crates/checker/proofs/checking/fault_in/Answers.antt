-- How the line is judged and whether one that it names is missing decide, as in the definition.
use Rattle.std.specs.Prelude.{Err, Ok}
use mathlib.Core.Path.{◌≡◌, sym, ◌∙◌}
use mathlib.Core.Bool.{cond}
use Rattle.whole.specs.declared.errors.Error.TheVariants.{UndefinedLine}
use Rattle.std.proofs.lemmas.Result.{err_from_is_err_and}
use Rattle.loader.specs.Lines.{lines_of}
use Rattle.reader.specs.Lines.{judgement}
use Rattle.checker.specs.Check.{fault_in}
use Rattle.checker.proofs.Faults.{fault_by_lem, fault_read}
use Rattle.checker.proofs.checking.fault_in.Goals as goal

pub returns-in_err-typed : goal.returns-in_err-typed
returns-in_err-typed c =
    let p = err_from_is_err_and c.from_residual.result c.from_residual.ensures.1 in
    rw (p.1, p.2) (fault_by_lem (lines_of c.args.text.now) (judgement c.args.line.now) (sym c.in_err-typed.was ∙ c.judge.ensures))

pub returns-then-not-typed : goal.returns-then-not-typed
returns-then-not-typed c = rw (c.if-not-typed.true) at
    (fault_by_lem (lines_of c.args.text.now) (judgement c.args.line.now) (sym c.in_ok-typed.was ∙ c.judge.ensures))

pub returns-then-any_missing : goal.returns-then-any_missing
returns-then-any_missing c =
    let decided : cond c.any_missing.result (Err UndefinedLine) (Ok tt) ≡ fault_in (lines_of c.args.text.now) (judgement c.args.line.now) = rw (c.if-not-typed.false) at
    (fault_read (lines_of c.args.text.now) (judgement c.args.line.now) (sym c.in_ok-typed.was ∙ c.judge.ensures) c.any_missing.ensures) in
    rw c.if-any_missing.true at (decided)

pub returns : goal.returns
returns c =
    let decided : cond c.any_missing.result (Err UndefinedLine) (Ok tt) ≡ fault_in (lines_of c.args.text.now) (judgement c.args.line.now) = rw (c.if-not-typed.false) at
    (fault_read (lines_of c.args.text.now) (judgement c.args.line.now) (sym c.in_ok-typed.was ∙ c.judge.ensures) c.any_missing.ensures) in
    rw c.if-any_missing.false at (decided)
