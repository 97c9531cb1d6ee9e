-- Turns of statements that only go on or end, and what an assignment does from its name on.
use Rattle.std.specs.Prelude.{Option, ℕ}
use mathlib.Core.Path.{◌≡◌, refl}
use mathlib.Core.List.{List}
use Prim.Native.Nat.{ℕ}
use Rattle.whole.specs.declared.errors.Error.{Error}
use Rattle.words.specs.declared.names.Name.{Name}
use Rattle.words.specs.declared.places.Place.{Place}
use Rattle.words.specs.declared.symbols.Scanned.{Scanned}
use Rattle.words.specs.declared.symbols.Token.TheVariants.{Named}
use Rattle.grammar.specs.Trees as tree
use Rattle.grammar.specs.Formulas.{good, after, formula_of}
use Rattle.words.specs.declared.symbols.Word.TheVariants.{Let}
use Rattle.statements.specs.Statements.{Begun, variable_of, by_word}
use Rattle.machine.specs.Machine as spec
use Rattle.machine.specs.bridge.Holding.{position_of, Positioned, Sound, State}
use Rattle.turns.specs.bridge.Turns.{Turn, turned_to, after_of, Turns, AnyRecords}
use Rattle.machine.specs.declared.positions.Next.TheVariants as next
use Rattle.machine.specs.declared.records.Record.{Record}
use Rattle.turns.specs.Steps as step
use Rattle.turns.specs.Steps.{goes_on, ends, stops, fails, do_statement}
use Rattle.turns.specs.bridge.Doing.{Does}
use Rattle.statements.proofs.Ways.{by_assign}
use Rattle.turns.proofs.Keeping.{leaves_unprinted}
use Rattle.turns.proofs.Leading.{leads_self, turns_fails, turns_on, turns_ends, turns_stops}

-- ---- turns that change nothing

module _ {text : List ℕ} {m : State} {input space room : List ℕ} where
  -- what holds whatever the records holds of those that meet what is told
  pub any_told : {told : List Record → Type 0} {does : spec.Machine → step.Next} {r : Turn} {space' room' : List ℕ}
      → Turns text m input space room AnyRecords does r space' room' → Turns text m input space room told does r space' room'
  any_told t = record { leaves = t.leaves; comes = λ rs h n s. t.comes rs tt n s }

  module _ (sound : Sound m input space room) (told : List Record → Type 0) where
    -- the run goes on after a statement
    pub goes_turn : (here : Place) (u : Scanned) → Positioned text (after_of here u)
        → Turns text m input space room told (λ n. goes_on n (position_of text (after_of here u))) (turned_to m (next.On (after_of here u))) space room
    goes_turn here u p = turns_on (leaves_unprinted sound refl refl refl) p (λ rs t n s. leads_self s)

    pub fails_turn : (e : Error) → Turns text m input space room told (fails e) (turned_to m (next.Fails e)) space room
    fails_turn e = turns_fails (leaves_unprinted sound refl refl refl) (λ rs t n s. leads_self s)

    pub ends_turn : Turns text m input space room told ends (turned_to m next.Ends) space room
    ends_turn = turns_ends (leaves_unprinted sound refl refl refl) (λ rs t n s. leads_self s)

    pub stops_turn : Turns text m input space room told stops (turned_to m next.Stops) space room
    stops_turn = turns_stops (leaves_unprinted sound refl refl refl) (λ rs t n s. leads_self s)

-- ---- from a name on

module _ (text line : List ℕ) (here : Place) (at : ℕ) (m : State) (found : Option ℕ) (entry : Record) (input space room : List ℕ) (r : Turn)
    (space' room' : List ℕ) where
  abbrev D : Begun → Type 0
  D b = Does text line here at m found entry input space room r space' room' b

  pub set_does : (t : Scanned) (name : Name) → t.token ≡ Named name
      → ((f : tree.Formula) (u : Scanned) → Positioned text (after_of here u) → formula_of line (after line (after line t)) ≡ good f u
      → Turns text m input space room AnyRecords
      (λ n. do_statement text at (tree.assign (variable_of line name) f) n (position_of text (after_of here u))) r space' room')
      → D (by_word line Let t)
  set_does t name w h = rw w (by_assign D tt line (after line t) (variable_of line name) (λ f u e p. any_told (h f u p e)))
