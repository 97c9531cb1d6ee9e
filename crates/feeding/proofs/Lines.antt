-- RESTORE: the items that are left anew; and DATA, which leaves all as it is.
use Rattle.std.specs.Prelude.{None, Option, Some, ℕ}
use mathlib.Core.Path.{◌≡◌, refl}
use mathlib.Core.List.{List}
use Prim.Native.Nat.{ℕ}
use Rattle.whole.specs.declared.errors.Error.TheVariants.{UndefinedLine}
use Rattle.words.specs.Places.{place}
use Rattle.words.specs.declared.places.LineNumber.{LineNumber}
use Rattle.words.specs.declared.places.Place.{Place}
use Rattle.words.specs.declared.symbols.Scanned.{Scanned}
use Rattle.words.specs.declared.symbols.Word.TheVariants.{Data}
use Rattle.whole.proofs.Never.{never}
use Rattle.scanner.specs.Tokens.{token_at}
use Rattle.statements.specs.Statements.{Begun, by_word}
use Rattle.statements.specs.bridge.Answers.{begun_answer}
use Rattle.statements.specs.declared.reading.Own.{Own}
use Rattle.statements.specs.declared.reading.StatementRead.TheVariants as statement
use Rattle.statements.proofs.Ways.{by_data}
use Rattle.loader.specs.Lines.{find_line}
use Rattle.loader.specs.declared.lines.LineSpan.{LineSpan}
use Rattle.grammar.specs.Trees as tree
use Rattle.machine.specs.Machine as spec
use Rattle.machine.specs.Machine.{with_items}
use Rattle.machine.specs.Items.{items_of}
use Rattle.machine.specs.Order.{stands}
use Rattle.machine.specs.bridge.Holding.{lines_at, position_of, Positioned, feed_from, from_line, Feeds, Sound, Same, State}
use Rattle.machine.specs.declared.positions.Next.TheVariants as next
use Rattle.machine.specs.declared.records.Record.{Record}
use Rattle.machine.specs.declared.state.Feed.{Feed}
use Rattle.machine.proofs.Standing.{Reaches, reaches_first, reaches_line, found_begins, found_none}
use Rattle.turns.specs.Steps as step
use Rattle.turns.specs.Steps.{goes_on, do_statement}
use Rattle.turns.specs.bridge.Turns.{Turn, turned_to, after_of, Turns, AnyRecords, with_feed}
use Rattle.turns.specs.bridge.Doing.{Does}
use Rattle.turns.proofs.Doing.{goes_turn}
use Rattle.turns.proofs.Keeping.{leaves_unprinted}
use Rattle.turns.proofs.Leading.{turns_fails, turns_on}

-- ---- the machine with items that go on elsewhere

module _ {m : State} {input space room : List ℕ} (f : Feed) where
  pub sound_feed : Sound m input space room → Sound (with_feed m f) input space room
  sound_feed sound =
      let t = sound.settled in
      record {
        settled = record { numbers = t.numbers; strings = t.strings; all = t.all; within = t.within; small = t.small };
        fitting = sound.fitting;
        taken = sound.taken;
        deep = sound.deep;
      }

  pub same_feed : {text : List ℕ} {rs : List Record} {n : spec.Machine} {l : List (List ℕ)} → Same text rs m input space room n → Feeds text f l
      → Same text rs (with_feed m f) input space room (with_items n l)
  same_feed s feeds =
      record {
        variables = s.variables;
        records = s.records;
        record_room = s.record_room;
        slots = s.slots;
        few = s.few;
        column = s.column;
        output = s.output;
        output_room = s.output_room;
        left = s.left;
        taken = s.taken;
        feeds = feeds;
        steps = s.steps;
        limit = s.limit;
        placed = s.placed;
      }

-- ---- from a line on

pub feeds_line : {text : List ℕ} (line : Place) → Reaches text line.0 → Feeds text (feed_from line) (items_of (stands (lines_at text line.0)))
feeds_line line r = from_line refl r.before r.all refl

module _ {text : List ℕ} {m : State} {input space room : List ℕ} (sound : Sound m input space room) (at : ℕ) (here : Place) (u : Scanned)
    (p : Positioned text (after_of here u)) where
  abbrev after : spec.Position
  after = position_of text (after_of here u)

  restored : (line : Place) → Reaches text line.0 → {does : spec.Machine → step.Next}
      → ((n : spec.Machine) → does n ≡ goes_on (with_items n (items_of (stands (lines_at text line.0)))) after)
      → Turns text m input space room AnyRecords does (turned_to (with_feed m (feed_from line)) (next.On (after_of here u))) space room
  restored line r e =
      turns_on (leaves_unprinted (sound_feed (feed_from line) sound) refl refl refl) p
      (λ rs t n s. record { machine = _; is = e n; same = same_feed (feed_from line) s (feeds_line line r) })

  -- all again
  pub restores_all : Turns text m input space room AnyRecords (λ n. do_statement text at tree.restore n after)
      (turned_to (with_feed m (feed_from (place 0))) (next.On (after_of here u))) space room
  restores_all = restored (place 0) (reaches_first text) (λ n. refl)

  module _ (number : LineNumber) where
    pub restores_none : find_line text number ≡ None
        → Turns text m input space room AnyRecords (λ n. do_statement text at (tree.restore_to number) n after) (turned_to m (next.Fails UndefinedLine)) space room
    restores_none e =
        turns_fails (leaves_unprinted sound refl refl refl)
        (λ rs t n s. record { machine = n; is = rw (found_none text number e); same = s })

    pub restores_from : {span : LineSpan} → find_line text number ≡ Some span
        → Turns text m input space room AnyRecords (λ n. do_statement text at (tree.restore_to number) n after)
        (turned_to (with_feed m (feed_from span.place)) (next.On (after_of here u))) space room
    restores_from {span} e =
        let f = found_begins text number e in
        restored span.place (reaches_line f.begins) (λ n. rw (← f.lines, f.begins.here))

-- ---- DATA: the run goes on after its items

module _ (text line : List ℕ) (here : Place) (at : ℕ) (m : State) (found : Option ℕ) (entry : Record) (input space room : List ℕ) (r : Turn) (word : Scanned) where
  abbrev D : Begun → Type 0
  D b = Does text line here at m found entry input space room r space room b

  pub data_passes : Sound m input space room → (own : Own) → Some (statement.Done own) ≡ begun_answer (by_word line Data word) → r ≡ turned_to m (next.On (after_of here own.ahead))
      → D (by_word line Data word)
  data_passes sound own e f =
      by_data (λ b. Some (statement.Done own) ≡ begun_answer b → D b) (λ g. tt) line word
      (λ l k i g p. let a : own.ahead ≡ token_at line (place k) = cc in rw (f, a) (goes_turn sound _ here (token_at line (place k)) p))
      e

  pub data_unread : (None ≡ begun_answer (by_word line Data word)) → D (by_word line Data word)
  data_unread e = by_data (λ b. None ≡ begun_answer b → D b) (λ g. tt) line word (λ l k i g. never (cc)) e

  pub data_no_choice : (own : Own) → Some (statement.Choice own) ≡ begun_answer (by_word line Data word) → D (by_word line Data word)
  data_no_choice own e = by_data (λ b. Some (statement.Choice own) ≡ begun_answer b → D b) (λ g. tt) line word (λ l k i g. never (cc)) e
