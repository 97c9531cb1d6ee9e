use mathlib.Core.Path.{sym, ◌∙◌}
use Rattle.dialogue.proofs.Shows.{shows_comma, shows_semicolon}
use Rattle.dialogue.proofs.Shows.{at_comma, at_semicolon}
use Rattle.dialogue.proofs.outputting.print_separator.Goals as goal

pub returns-then-is_symbol : goal.returns-then-is_symbol
returns-then-is_symbol c = λ i u space tables separates at.
    at_comma c.args.line.now c.args.item (sym c.is_symbol.ensures ∙ c.if-is_symbol.true)
    (rw (c.shown_or_full.ensures, c.write_comma.ensures.0, c.write_comma.ensures.1, c.token_at-ahead.ensures) (shows_comma c.requires _))
    i u at

pub returns : goal.returns
returns c = λ i u space tables separates at.
    at_semicolon c.args.line.now c.args.item (sym c.is_symbol.ensures ∙ c.if-is_symbol.false)
    (rw c.token_at-ahead.ensures (shows_semicolon c.requires _))
    separates i u at
