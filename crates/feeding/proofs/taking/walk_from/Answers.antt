use mathlib.Core.Path.{sym, ◌∙◌}
use Rattle.machine.proofs.Standing.{none_here}
use Rattle.feeding.proofs.Cursor.{from_ahead, outside_line, outside_statement}
use Rattle.feeding.proofs.taking.walk_from.Goals as goal

pub enter-requires : goal.enter-requires
enter-requires c = let o = outside_line c.requires.outside c.if-at-eq0.true in record { loads = c.requires.loads; before = o.before; all = o.lines }

pub returns-then-at-eq0 : goal.returns-then-at-eq0
returns-then-at-eq0 c = λ l o. let k = outside_line o c.if-at-eq0.true in record { xs = _; walks = c.enter.ensures.0; all = k.all }

pub returns-in-None : goal.returns-in-None
returns-in-None c = λ l o. let k = outside_statement o c.if-at-eq0.false in none_here k.stands.begins c.requires.loads (sym c.line_at.ensures ∙ c.in-None.is)

pub returns-in-Some : goal.returns-in-Some
returns-in-Some c = λ l o. let k = outside_statement o c.if-at-eq0.false in record { xs = k.xs; walks = from_ahead c.requires.loads (sym c.line_at.ensures ∙ c.in-Some.is) k.stands; all = k.all }
