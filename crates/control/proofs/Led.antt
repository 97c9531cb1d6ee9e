-- What GOTO, GOSUB, FOR and NEXT do from the token after the word on.
use Rattle.std.specs.Prelude.{Option, Some, ℕ}
use mathlib.Core.Path.{◌≡◌, refl}
use mathlib.Core.List.{List}
use Prim.Native.Nat.{ℕ, ◌≤◌}
use lib.ListN.{length}
use Rattle.whole.specs.declared.errors.Error.TheVariants.{TypeMismatch}
use Rattle.words.specs.declared.names.Kind.TheVariants as kind
use Rattle.words.specs.declared.names.Name.{Name}
use Rattle.words.specs.declared.places.LineNumber.{LineNumber}
use Rattle.words.specs.declared.places.Place.{Place}
use Rattle.words.specs.declared.symbols.Scanned.{Scanned}
use Rattle.words.specs.declared.symbols.Token.TheVariants.{Named}
use Rattle.words.specs.Places.{longest_line}
use Rattle.grammar.specs.Trees as tree
use Rattle.grammar.specs.Formulas.{after}
use Rattle.grammar.specs.bridge.Answers.{line_of}
use Rattle.words.specs.declared.symbols.Word.TheVariants.{For, Goto, Gosub}
use Rattle.statements.specs.Statements.{Begun, bad, done, variable_of, for_at, by_word}
use Rattle.machine.specs.Machine as spec
use Rattle.machine.specs.bridge.Holding.{position_of, Positioned, Sound, State}
use Rattle.machine.specs.Machine.{is_loop_of}
use Rattle.machine.specs.bridge.Wanted.{Told}
use Rattle.turns.specs.bridge.Turns.{Turn, turned_to, after_of, Turns, AnyRecords}
use Rattle.machine.specs.declared.positions.Next.TheVariants as next
use Rattle.machine.specs.declared.records.Record.{Record}
use Rattle.turns.specs.Steps.{next_on, do_statement}
use Rattle.turns.specs.bridge.Doing.{Begins, Does}
use Rattle.statements.proofs.Ways.{by_for}
use Rattle.turns.proofs.Beginning.{on_line_lem}
use Rattle.turns.proofs.Doing.{any_told, fails_turn}
use Rattle.control.specs.bridge.Answers.{Counts}

-- NEXT with a string's name
pub next_text : {text : List ℕ} {m : State} {input space room : List ℕ} → Sound m input space room → (told : List Record → Type 0) (at : ℕ) (v : tree.Variable) (after : spec.Position) → v.kind ≡ kind.Text
    → Turns text m input space room told (λ n. do_statement text at (tree.next_of v) n after) (turned_to m (next.Fails TypeMismatch)) space room
next_text sound told at v after e = simp e (fails_turn sound told TypeMismatch)

-- and with a number's
pub next_whole : {text : List ℕ} {m : State} {input space room : List ℕ} {told : List Record → Type 0} {r : Turn} (at : ℕ) (v : tree.Variable) (after : spec.Position)
    → v.kind ≡ kind.Whole
    → Turns text m input space room told (λ n. next_on n (spec.sought (is_loop_of v.telling) n.records) after) r space room
    → Turns text m input space room told (λ n. do_statement text at (tree.next_of v) n after) r space room
next_whole at v after e t = simp e t

-- a FOR that reads has what it needs
pub for_counts : (s : List ℕ) → length s ≤ longest_line → (w : Scanned) (name : Name) → Begins (for_at s (variable_of s name) (after s w)) → Counts s name (after s w)
for_counts s short w name =
    by_for (λ b. Begins b → Counts s name (after s w)) (λ x. absurd x) s (after s w) (variable_of s name)
    (λ a b c u e h. record { short = short; scans = record { from = w.next; is = refl }; start = a; limit = b; step = c; end = u; is = e; shallow = h.1 })

module _ (text line : List ℕ) (here : Place) (at : ℕ) (m : State) (found : Option ℕ) (entry : Record) (input space room : List ℕ) (r : Turn)
    (space' room' : List ℕ) where
  abbrev D : Begun → Type 0
  D b = Does text line here at m found entry input space room r space' room' b

  pub loop_does : (t : Scanned) (name : Name) → t.token ≡ Named name
      → ((a b c : tree.Formula) (u : Scanned) → Positioned text (after_of here u)
      → for_at line (variable_of line name) (after line t) ≡ done (tree.for (variable_of line name) a b c) u
      → Turns text m input space room (Told text m.tables.numbers.names (is_loop_of (variable_of line name).telling) m.depth found entry)
      (λ n. do_statement text at (tree.for (variable_of line name) a b c) n (position_of text (after_of here u))) r space' room')
      → D (by_word line For t)
  loop_does t name w h = rw w (by_for D tt line (after line t) (variable_of line name) (λ a b c u e p. h a b c u p e))

  pub jump_does : (t : Scanned) (l : LineNumber) → line_of t.token ≡ Some l
      → ((after : spec.Position) → Turns text m input space room AnyRecords (λ n. do_statement text at (tree.goto l) n after) r space' room')
      → D (by_word line Goto t)
  jump_does t l e h = rw (on_line_lem t.token (λ l. done (tree.goto l) (after line t)) bad e) (λ p. any_told (h (position_of text (after_of here (after line t)))))

  pub call_does : (t : Scanned) (l : LineNumber) → line_of t.token ≡ Some l
      → (Positioned text (after_of here (after line t)) → Turns text m input space room AnyRecords
      (λ n. do_statement text at (tree.gosub l) n (position_of text (after_of here (after line t)))) r space' room')
      → D (by_word line Gosub t)
  call_does t l e h = rw (on_line_lem t.token (λ l. done (tree.gosub l) (after line t)) bad e) (λ p. any_told (h p))
