use mathlib.Core.Path.{sym, ◌∙◌}
use Rattle.feeding.proofs.taking.feed_after.Goals as goal

pub returns-then-item : goal.returns-then-item
returns-then-item c = rw c.if-item.true

pub returns-then-is_symbol : goal.returns-then-is_symbol
returns-then-is_symbol c = rw (c.if-item.false, ← c.token_at-ahead.ensures, sym c.is_symbol.ensures ∙ c.if-is_symbol.true)

pub returns : goal.returns
returns c = rw (c.if-item.false, ← c.token_at-ahead.ensures, sym c.is_symbol.ensures ∙ c.if-is_symbol.false) c.from_line.ensures
