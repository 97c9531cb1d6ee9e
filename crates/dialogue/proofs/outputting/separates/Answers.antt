-- A comma, or else a semicolon.
use mathlib.Core.Path.{sym, ◌∙◌}
use Rattle.dialogue.proofs.outputting.separates.Goals as goal

pub returns-then-is_symbol : goal.returns-then-is_symbol
returns-then-is_symbol c = let e = sym c.is_symbol.ensures ∙ c.if-is_symbol.true in rw e

pub returns : goal.returns
returns c = let e = sym c.is_symbol.ensures ∙ c.if-is_symbol.false in rw e c.is_symbol-2.ensures
