-- The answers in the order of the tests (`old_refused`, `new_refused`, `all_fits`, `too_short`).
use mathlib.Core.Path.{sym, ap, ◌∙◌}
use Rattle.std.specs.Prelude.{Ok}
use Rattle.compare.proofs.Answered.{old_refused, new_refused, too_short, all_fits}
use Rattle.compare.proofs.comparing.compare.Goals as goal

pub returns-in-Err-clause-out_after : goal.returns-in-Err-clause-out_after
returns-in-Err-clause-out_after c = (old_refused _ _ _ (sym c.load.ensures ∙ c.in-Err.is)).1

pub returns-in-Err-clause-value : goal.returns-in-Err-clause-value
returns-in-Err-clause-value c = (old_refused _ _ _ (sym c.load.ensures ∙ c.in-Err.is)).0

pub returns-in-Err-load-clause-out_after : goal.returns-in-Err-load-clause-out_after
returns-in-Err-load-clause-out_after c = (new_refused _ _ _ (sym c.load.ensures ∙ c.in_default.is) (sym c.load-2.ensures ∙ c.in-Err-load.is)).1

pub returns-in-Err-load-clause-value : goal.returns-in-Err-load-clause-value
returns-in-Err-load-clause-value c = (new_refused _ _ _ (sym c.load.ensures ∙ c.in_default.is) (sym c.load-2.ensures ∙ c.in-Err-load.is)).0

pub returns-clause-out_after : goal.returns-clause-out_after
returns-clause-out_after c = let d = all_fits c.args.old.now c.args.new.now c.args.out.now (sym c.load.ensures ∙ c.in_default.is)
    (sym c.load-2.ensures ∙ c.in_default-load.is) (sym c.report_fits.ensures ∙ c.if-not-report_fits.false) in
    c.write_report.ensures.out_after ∙ d.1

pub returns-clause-value : goal.returns-clause-value
returns-clause-value c = let d = all_fits c.args.old.now c.args.new.now c.args.out.now (sym c.load.ensures ∙ c.in_default.is)
    (sym c.load-2.ensures ∙ c.in_default-load.is) (sym c.report_fits.ensures ∙ c.if-not-report_fits.false) in
    ap Ok c.write_report.ensures.value ∙ d.0

pub returns-then-not-report_fits-clause-out_after : goal.returns-then-not-report_fits-clause-out_after
returns-then-not-report_fits-clause-out_after c = (too_short _ _ _ (sym c.load.ensures ∙ c.in_default.is) (sym c.load-2.ensures ∙ c.in_default-load.is)
    (sym c.report_fits.ensures ∙ c.if-not-report_fits.true)).1

pub returns-then-not-report_fits-clause-value : goal.returns-then-not-report_fits-clause-value
returns-then-not-report_fits-clause-value c = (too_short _ _ _ (sym c.load.ensures ∙ c.in_default.is) (sym c.load-2.ensures ∙ c.in_default-load.is)
    (sym c.report_fits.ensures ∙ c.if-not-report_fits.true)).0
