-- Bridge: where the code goes on when a FOR's body is skipped.
-- The contracts of functions inside this crate cite it; no demand and no promise of run, check_recipe or ask rests on it.
use Rattle.std.specs.Prelude.{◌≡◌, Bool, true, false, cond, List, ℕ, Option, None, Some}
use Rattle.whole.specs.declared.errors.Error.TheVariants.{NextWithoutFor, ForWithoutNext}
use Rattle.words.specs.declared.names.Name.{Name}
use Rattle.words.specs.Names.{Telling}
use Rattle.words.specs.declared.places.Place.{Place}
use Rattle.grammar.specs.Tests.{on_name}
use Rattle.grammar.specs.Trees as tree
use Rattle.statements.specs.Parts.{head_of}
use Rattle.statements.specs.Statements.{variable_of}
use Rattle.statements.specs.declared.leading.Lead.{Lead}
use Rattle.machine.specs.Machine.{passed}
use Rattle.machine.specs.bridge.Holding.{lines_at, State}
use Rattle.machine.specs.declared.positions.Position.{Position}
use Rattle.machine.specs.declared.positions.Next.{Next}
use Rattle.machine.specs.declared.positions.Next.TheVariants as next
use Rattle.machine.specs.Order.{Stand, Partner, none, some, next_for}
use Rattle.turns.specs.Steps.{names_other}
use Rattle.turns.specs.bridge.Turns.{Turn, number_set, GoesPast}
use Rattle.control.specs.bridge.Answers.{loop_turn}

-- the name after NEXT is another's
abbrev pub other_named : List ℕ → Telling → Name → Bool
other_named line name v = names_other name (tree.next_of (variable_of line v))

-- as it is led
abbrev pub other_led : List ℕ → Telling → Option Lead → Bool
other_led line name (Some lead) = on_name lead.ahead.token (λ v. other_named line name v) false
other_led line name None = false

-- after a NEXT, unless it names another variable
abbrev pub PastNext : List ℕ → Telling → Next → Stand → Type 0
PastNext text name r x = cond (names_other name (head_of x.part)) (r ≡ next.Fails NextWithoutFor) (GoesPast text r x)

abbrev pub Skips : List ℕ → Telling → Next → Partner → Type 0
Skips text name r none = r ≡ next.Fails ForWithoutNext
Skips text name r (some x) = PastNext text name r x

-- what a FOR leaves that stands at a place of its line and comes back to a position in it
pub record LoopBegun (text : List ℕ) (at : Place) (m : State) (name : Telling) (from limit step : ℕ) (back : Position) (f : Option ℕ) (r : Turn) : Type 0 where
  -- where it goes on if its body is skipped
  pub skip : Next
  pub skips : (number_set m name from).ok ≡ true → passed from limit step ≡ true → Skips text name skip (next_for at.0 (lines_at text back.line.0))
  pub is : r ≡ loop_turn m name from limit step back f skip
