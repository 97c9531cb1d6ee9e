-- Bridge: what a statement's code does, by how the statement begins.
-- The contracts of functions that crates use among themselves cite it; no demand and no promise of run, check_recipe or ask rests on it.
use Rattle.std.specs.Prelude.{◌≡◌, true, false, List, ℕ, ◌≤◌, Option}
use Rattle.words.specs.declared.places.Place.{Place}
use Rattle.words.specs.declared.symbols.Scanned.{Scanned}
use Rattle.words.specs.declared.symbols.Word.TheVariants.{Else}
use Rattle.grammar.specs.Tests.{is_keyword, ends_statement}
use Rattle.grammar.specs.Trees as tree
use Rattle.grammar.specs.Trees.{Part}
use Rattle.expressions.specs.Types.{deepest_nesting, depth_of}
use Rattle.statements.specs.Parts.{formulas_of, deepest}
use Rattle.statements.specs.Statements.{Begun, bad, done, choice, good_part, part_of}
use Rattle.machine.specs.Machine as spec
use Rattle.machine.specs.bridge.Holding.{lines_at, Shallow, Positioned, position_of, State}
use Rattle.machine.specs.bridge.Seeking.{Wish, nothing, wish_of, test_of}
use Rattle.machine.specs.bridge.Wanted.{Told}
use Rattle.machine.specs.declared.records.Record.{Record}
use Rattle.turns.specs.Steps.{do_statement}
use Rattle.turns.specs.bridge.Turns.{Turn, after_of, Turns}

-- it reads: what follows it ends it, and its formulas do not nest too deep
abbrev pub Begins : Begun → Type 0
Begins bad = ⊥
Begins (done x u) = (ends_statement u.token ≡ true) × (deepest (formulas_of x) ≤ deepest_nesting)
Begins (choice c u) = depth_of c ≤ deepest_nesting

-- what was done is what the definition does, wherever the statement or the IF's parts read
module _ (text line : List ℕ) (here : Place) (at : ℕ) (m : State) (found : Option ℕ) (entry : Record) (input space room : List ℕ) (r : Turn)
    (space' room' : List ℕ) where
  -- the record that it may ask for was looked up
  abbrev Looked : Wish → List Record → Type 0
  Looked w = Told text m.tables.numbers.names (test_of w) m.depth found entry

  abbrev pub Does : Begun → Type 0
  Does bad = Unit {0}
  Does (done x u) =
      Positioned text (after_of here u)
      → Turns text m input space room (Looked (wish_of here.0 at x))
      (λ n. do_statement text at x n (position_of text (after_of here u))) r space' room'
  Does (choice c way) =
      (p : Part) (u : Scanned) (after : spec.Position) → after.lines ≡ lines_at text here.0
      → part_of line true way.next.0 ≡ good_part p u → Shallow p
      → (is_keyword Else u.token ≡ false
      → Turns text m input space room (Looked nothing) (λ n. do_statement text at (tree.if_then c p) n after) r space' room')
      × (is_keyword Else u.token ≡ true → (q : Part) (v : Scanned) → part_of line true u.next.0 ≡ good_part q v → Shallow q
      → Turns text m input space room (Looked nothing) (λ n. do_statement text at (tree.if_else c p q) n after) r space' room')
