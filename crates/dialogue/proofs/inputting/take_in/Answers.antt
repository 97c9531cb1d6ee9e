-- Why no line is taken, or the line.
use Rattle.std.specs.Prelude.{Ok}
use mathlib.Core.Path.{◌≡◌, sym, ◌∙◌}
use borrow.Author.Rules.{rules}
use Rattle.loader.specs.declared.lines.Extent.{Extent}
use Rattle.statements.specs.Statements.{variable_of}
use Rattle.machine.proofs.Takes.{Took, took}
use Rattle.dialogue.proofs.Asking.{takes_fault, takes_line_lem}
use Rattle.dialogue.proofs.inputting.take_in.Goals as goal

pub slice_bounds-fill-count : goal.slice_bounds-fill-count
slice_bounds-fill-count c =
    let line_took : (e : Extent) → c.take_line.result ≡ Ok e → Took c.args.input.now c.args.machine.taken.0 e = λ e f. took _ _ (sym c.take_line.ensures ∙ f) in
    (line_took _ c.in-Ok.is).low

pub slice_bounds-fill-start : goal.slice_bounds-fill-start
slice_bounds-fill-start c =
    let line_took : (e : Extent) → c.take_line.result ≡ Ok e → Took c.args.input.now c.args.machine.taken.0 e = λ e f. took _ _ (sym c.take_line.ensures ∙ f) in
    (line_took _ c.in-Ok.is).low

pub slice_bounds-fill-end : goal.slice_bounds-fill-end
slice_bounds-fill-end c =
    let line_took : (e : Extent) → c.take_line.result ≡ Ok e → Took c.args.input.now c.args.machine.taken.0 e = λ e f. took _ _ (sym c.take_line.ensures ∙ f) in
    (line_took _ c.in-Ok.is).inside

pub fill-requires : goal.fill-requires
fill-requires c =
    let line_took : (e : Extent) → c.take_line.result ≡ Ok e → Took c.args.input.now c.args.machine.taken.0 e = λ e f. took _ _ (sym c.take_line.ensures ∙ f) in
    let k = line_took _ c.in-Ok.is in
    (record { all = c.requires.all; within = c.requires.within }, search (rules, k.short))

pub returns-in-Err-clause-does : goal.returns-in-Err-clause-does
returns-in-Err-clause-does c text room sound p = rw c.fails.ensures
    (takes_fault text sound (variable_of c.args.line.now c.args.name) _ (sym c.take_line.ensures ∙ c.in-Err.is))

pub returns-in-Ok-clause-does : goal.returns-in-Ok-clause-does
returns-in-Ok-clause-does c text room sound p = takes_line_lem text sound (variable_of c.args.line.now c.args.name) _ (sym c.take_line.ensures ∙ c.in-Ok.is)
    (λ s. c.fill.ensures.does text c.args.input.now room s p)
