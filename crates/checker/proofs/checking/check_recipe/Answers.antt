-- The loop's invariant: the lines from the one reached on are sound, and the first faulty one of them decides.
use mathlib.Core.Path.{sym, ◌∙◌, ap}
use mathlib.Core.List.{List}
use Prim.Native.Nat.{ℕ}
use native.Mathlib.Omega.{arith}
use Rattle.std.proofs.lemmas.Result.{err_from_is_err_and}
use Rattle.loader.specs.Lines.{lines_of}
use Rattle.loader.proofs.Extents.{lines_at}
use Rattle.loader.proofs.Rising.{recipe}
use Rattle.loader.proofs.Spans.{none_left, Spanned, spanned_as}
use Rattle.checker.specs.Check.{first_fault, check_of}
use Rattle.checker.proofs.Faults.{fault_here, fault_later}
use Rattle.checker.proofs.checking.check_recipe.Goals as goal

pub returns-in_err-load : goal.returns-in_err-load
unfolding check_of
returns-in_err-load c =
    let p = err_from_is_err_and c.from_residual.result c.from_residual.ensures.1 in
    rw (p.1, p.2, sym c.load.ensures ∙ c.in_err-load.was)

pub loop-line-init : goal.loop-line-init
unfolding check_of
loop-line-init c = let e = sym c.load.ensures ∙ c.in_ok-load.was in
    ((recipe c.args.text.now e).rising, rw e)

pub returns-in_default : goal.returns-in_default
unfolding first_fault
returns-in_default c = let e = none_left (lines_at c.args.text.now c.loop-line.at.0) c.loop-line.invariant.0 (sym c.line_at.ensures ∙ c.in_default.is) in
    sym (ap (first_fault (lines_of c.args.text.now)) e) ∙ c.loop-line.invariant.1

pub slice_bounds-fault_in-count : goal.slice_bounds-fault_in-count
slice_bounds-fault_in-count c =
    let text : List ℕ = c.args.text.now in
    let at_line : Spanned text c.loop-line.at.0 c.in-Some.line = spanned_as text c.loop-line.at.0 c.loop-line.invariant.0 (sym c.line_at.ensures ∙ c.in-Some.is) in
    (at_line).low

pub slice_bounds-fault_in-start : goal.slice_bounds-fault_in-start
slice_bounds-fault_in-start c =
    let text : List ℕ = c.args.text.now in
    let at_line : Spanned text c.loop-line.at.0 c.in-Some.line = spanned_as text c.loop-line.at.0 c.loop-line.invariant.0 (sym c.line_at.ensures ∙ c.in-Some.is) in
    (at_line).low

pub slice_bounds-fault_in-end : goal.slice_bounds-fault_in-end
slice_bounds-fault_in-end c =
    let text : List ℕ = c.args.text.now in
    let at_line : Spanned text c.loop-line.at.0 c.in-Some.line = spanned_as text c.loop-line.at.0 c.loop-line.invariant.0 (sym c.line_at.ensures ∙ c.in-Some.is) in
    (at_line).high

pub returns-in-Err : goal.returns-in-Err
returns-in-Err c =
    let text : List ℕ = c.args.text.now in
    let at_line : Spanned text c.loop-line.at.0 c.in-Some.line = spanned_as text c.loop-line.at.0 c.loop-line.invariant.0 (sym c.line_at.ensures ∙ c.in-Some.is) in
    fault_here (lines_of (text)) (text) (at_line) (sym c.in-Err.is ∙ c.fault_in.ensures) ∙ c.loop-line.invariant.1

pub loop-line-smaller : goal.loop-line-smaller
loop-line-smaller c =
    let text : List ℕ = c.args.text.now in
    let at_line : Spanned text c.loop-line.at.0 c.in-Some.line = spanned_as text c.loop-line.at.0 c.loop-line.invariant.0 (sym c.line_at.ensures ∙ c.in-Some.is) in
    let r = at_line in omega (arith, r.onward, r.inside)

pub loop-line-preserved : goal.loop-line-preserved
loop-line-preserved c =
    let text : List ℕ = c.args.text.now in
    let at_line : Spanned text c.loop-line.at.0 c.in-Some.line = spanned_as text c.loop-line.at.0 c.loop-line.invariant.0 (sym c.line_at.ensures ∙ c.in-Some.is) in
    let r = at_line in
    (r.rising, fault_later (lines_of (text)) (text) r (sym c.in_default-fault_in.is ∙ c.fault_in.ensures) ∙ c.loop-line.invariant.1)
