-- Bridge: where a WHILE stands, and where the code goes on after its WEND.
-- The contracts of functions inside this crate cite it; no demand and no promise of run, check_recipe or ask rests on it.
use Rattle.std.specs.Prelude.{◌≡◌, false, List, ℕ}
use Rattle.whole.specs.declared.errors.Error.TheVariants.{WhileWithoutWend}
use Rattle.words.specs.declared.places.Place.{Place}
use Rattle.words.specs.declared.symbols.Scanned.{Scanned}
use Rattle.grammar.specs.Trees.{Formula}
use Rattle.grammar.specs.Formulas.{good, formula_of}
use Rattle.machine.specs.Order.{Partner, none, some}
use Rattle.machine.specs.bridge.Holding.{Positioned, position_of}
use Rattle.machine.specs.declared.positions.Position.{Position}
use Rattle.machine.specs.declared.positions.Next.{Next}
use Rattle.machine.specs.declared.positions.Next.TheVariants as next
use Rattle.turns.specs.Steps.{here_of}
use Rattle.turns.specs.bridge.Turns.{after_of, GoesPast}

-- at a place of a line
abbrev pub spot_of : Place → Place → Position
spot_of line at = record { line = line; at = at; over = false }

-- a WHILE stands there: its condition, from a token on, and the token after it
pub record WhileStands (text line : List ℕ) (here at : Place) (first : Scanned) (c : Formula) (u : Scanned) : Type 0 where
  pub reads : formula_of line first ≡ good c u
  pub after : Positioned text (after_of here u)
  pub own : Positioned text (spot_of here at)
  pub itself : position_of text (spot_of here at) ≡ here_of at.0 c (position_of text (after_of here u))

-- after its WEND
abbrev pub PastWend : List ℕ → Next → Partner → Type 0
PastWend text r none = r ≡ next.Fails WhileWithoutWend
PastWend text r (some x) = GoesPast text r x
