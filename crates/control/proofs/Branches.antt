-- IF: a part of the line is entered, or the line is over.
use Rattle.std.specs.Prelude.{None, Some, Result, Ok}
use mathlib.Core.Path.{◌≡◌, refl, sym, ap, ◌∙◌}
use mathlib.Core.Logic.{◌⊎◌}
use mathlib.Core.Bool.{true, false, cond, false≢true}
use mathlib.Core.List.{List}
use Prim.Native.Nat.{ℕ}
use borrow.Author.Tests.{eq-eqb, ne_eqb}
use lib.Dec.{eqb}
use Rattle.words.specs.declared.places.Place.{Place}
use Rattle.words.specs.declared.symbols.Scanned.{Scanned}
use Rattle.words.specs.declared.symbols.Word.TheVariants.{Else}
use Rattle.loader.specs.Lines.{Line}
use Rattle.grammar.specs.Tests.{is_keyword}
use Rattle.grammar.specs.Trees.{Formula, Part, if_then, if_else}
use Rattle.statements.specs.Statements.{good_part, part_of}
use Rattle.reader.specs.Lines.{else_at}
use Rattle.variables.specs.declared.values.Worked.{Worked}
use Rattle.variables.specs.declared.values.Worked.TheVariants.{Whole}
use Rattle.variables.specs.bridge.Memory.{mismatch_of}
use Rattle.machine.specs.Machine as spec
use Rattle.statements.specs.Parts.{part}
use Rattle.machine.specs.bridge.Holding.{lines_at, body_of, Shallow, position_of, Positioned, Sound, State}
use Rattle.machine.specs.declared.positions.Position.{Position}
use Rattle.turns.specs.bridge.Turns.{Turn, turned_to, Turns, AnyRecords, Valued, Standing}
use Rattle.machine.specs.declared.positions.Next.TheVariants as next
use Rattle.machine.specs.declared.records.Record.{Record}
use Rattle.turns.specs.Steps as step
use Rattle.turns.specs.Steps.{goes_on, branch, line_over, do_statement}
use Rattle.control.specs.bridge.Answers.{taken_turn}
use Rattle.variables.proofs.Agreements.{NoWhole}
use Rattle.turns.proofs.Keeping.{sound_kept, leaves_unprinted}
use Rattle.turns.proofs.Leading.{turns_on}
use Rattle.turns.proofs.Wholes.{turns_none, turns_whole}
use Rattle.whole.specs.declared.errors.Error.{Error}

-- ---- where the run goes on

module _ {text line : List ℕ} {here : Place} (st : Standing text line here) where
  abbrev inside : Place → Position
  inside at = record { line = here; at = at; over = false }

  module _ (at : Place) {p : Part} {u : Scanned} (e : part_of line true at.0 ≡ good_part p u) (low : Shallow p) where
    here_reads : part_of (body_of (lines_at text here.0)) true at.0 ≡ good_part p u
    here_reads = ap (λ s. part_of s true at.0) (sym st.is) ∙ e

    inside_placed : Positioned text (inside at)
    inside_placed = record { begins = st.begins; reads = λ _. record { of = p; end = u; is = here_reads; shallow = low } }

    inside_is : position_of text (inside at) ≡ record { lines = lines_at text here.0; rest = part p }
    inside_is = rw here_reads

  module _ {m : State} {input space room : List ℕ} {told : List Record → Type 0} {does : spec.Machine → step.Next}
      (sound : Sound m input space room) (lines : List Line) (all : lines ≡ lines_at text here.0) where
    -- a part that reads is entered
    turns_part : (at : Place) {p : Part} {u : Scanned} → part_of line true at.0 ≡ good_part p u → Shallow p
        → ((n : spec.Machine) → does n ≡ branch n lines p)
        → Turns text m input space room told does (taken_turn m here (Some at)) space room
    turns_part at {p} e low h =
        turns_on (leaves_unprinted sound refl refl refl) (inside_placed at e low)
        (λ rs t n s.
        record {
          machine = n;
          is = h n ∙ ap (goes_on n) (ap (λ ls. record { lines = ls; rest = part p }) all ∙ sym (inside_is at e low));
          same = s;
        })

    -- the line is over
    turns_over : ((n : spec.Machine) → does n ≡ line_over n lines) → Turns text m input space room told does (taken_turn m here None) space room
    turns_over h =
        turns_on (leaves_unprinted sound refl refl refl) (record { begins = st.begins; reads = λ z. absurd (false≢true (sym z)) })
        (λ rs t n s. record { machine = n; is = h n ∙ ap (line_over n) all; same = s })

-- ---- by the condition's value

-- what an IF does then
abbrev thens : spec.Position → Part → ℕ → spec.Machine → step.Next
thens after p w n = cond (eqb w 0) (line_over n after.lines) (branch n after.lines p)

abbrev elses : spec.Position → Part → Part → ℕ → spec.Machine → step.Next
elses after p q w n = branch n after.lines (cond (eqb w 0) q p)

-- what is to be shown of it without ELSE, and with it
abbrev IfTurns : (text line : List ℕ) (at : ℕ) (m : State) (input space room : List ℕ) (c : Formula) (p : Part) (u : Scanned) (after : spec.Position)
    (r : Turn) (space' : List ℕ) → Type 0
IfTurns text line at m input space room c p u after r space' =
    (is_keyword Else u.token ≡ false
    → Turns text m input space room AnyRecords (λ n. do_statement text at (if_then c p) n after) r space' room)
    × (is_keyword Else u.token ≡ true → (q : Part) (v : Scanned) → part_of line true u.next.0 ≡ good_part q v → Shallow q
    → Turns text m input space room AnyRecords (λ n. do_statement text at (if_else c p q) n after) r space' room)

module _ {text line input space room space' : List ℕ} {here : Place} {m : State} {c : Formula} {t : Scanned} {p : Part} {u : Scanned}
    (at : ℕ) (after : spec.Position) (st : Standing text line here) (sound : Sound m input space room) (lines : after.lines ≡ lines_at text here.0)
    (reads : part_of line true t.next.0 ≡ good_part p u) (low : Shallow p) where
  -- an error, or a text
  pub if_none : (r : Result Worked Error) → NoWhole r → Valued m c t space r space'
      → IfTurns text line at m input space room c p u after (turned_to m (next.Fails (mismatch_of r))) space'
  if_none r h v = (λ _. turns_none (thens after p) sound r h v, λ _ q w _ _. turns_none (elses after p q) sound r h v)

  module _ {w : ℕ} {x : Scanned} (v : Valued m c t space (Ok (Whole w x)) space') where
    -- not 0: the first part
    pub if_true : (w ≡ 0 → ⊥) → IfTurns text line at m input space room c p u after (taken_turn m here (Some x.next)) space'
    if_true z =
        let k = sound_kept v.framed.long sound in
        rw v.goes (
          λ _. turns_whole (thens after p) sound v (turns_part st k after.lines lines t.next reads low (λ n. rw (ne_eqb w 0 z))),
          λ _ q y _ _. turns_whole (elses after p q) sound v (turns_part st k after.lines lines t.next reads low (λ n. rw (ne_eqb w 0 z))),
        )

    -- 0: the other, or none
    pub if_false : w ≡ 0 → IfTurns text line at m input space room c p u after (taken_turn m here (else_at u)) space'
    if_false z =
        let k = sound_kept v.framed.long sound in (
          λ f. rw f (turns_whole (thens after p) sound v (turns_over st k after.lines lines (λ n. rw (eq-eqb w 0 z)))),
          λ f q y e lower. rw f (turns_whole (elses after p q) sound v (turns_part st k after.lines lines u.next e lower (λ n. rw (eq-eqb w 0 z)))),
        )
