use mathlib.Core.Path.{sym, ◌∙◌}
use Rattle.dialogue.proofs.Shows.{shows_worked}
use Rattle.dialogue.proofs.Shows.{at_formula}
use Rattle.dialogue.proofs.outputting.print_item.Goals as goal

pub returns-then-separates : goal.returns-then-separates
returns-then-separates c = λ i u at. c.print_separator.ensures i u _ _ (sym c.separates.ensures ∙ c.if-separates.true) at

pub value-worked-requires : goal.value-worked-requires
value-worked-requires c = (c.requires.0 (sym c.separates.ensures ∙ c.if-separates.false), c.requires.1.0)

pub show-requires : goal.show-requires
show-requires c = let r = (c.requires.0 (sym c.separates.ensures ∙ c.if-separates.false)).reads in
    (c.requires.1.1, (c.value-worked.ensures r.of r.next r.is).framed.fits)

pub returns : goal.returns
returns c = at_formula c.args.line.now c.args.item (sym c.separates.ensures ∙ c.if-separates.false)
    (λ f u e. shows_worked c.requires.1.0 c.requires.1.1 c.value-worked.result (c.value-worked.ensures f u e) c.show.ensures)
