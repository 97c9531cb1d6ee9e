-- What the code shows of one item is what the definition does with it.
use Rattle.std.specs.Prelude.{Option, Some, None, Result, Ok, Err}
use Rattle.std.specs.Option.{unwrap_or}
use mathlib.Core.Path.{◌≡◌, refl, sym, ap, subst, ◌∙◌}
use mathlib.Core.Bool.{true, false, false≢true}
use mathlib.Core.List.{List}
use Prim.Native.Nat.{ℕ, ◌-◌, ◌%◌}
use lib.ListN.{length, replicate, take, drop}
use native.Mathlib.Nat.{le_refl}
use Rattle.whole.specs.Texts as texts
use Rattle.whole.specs.Bytes.{blank}
use Rattle.words.specs.declared.symbols.Scanned.{Scanned}
use Rattle.words.specs.declared.symbols.Sign.TheVariants.{Comma}
use Rattle.space.specs.Moves.{copied}
use Rattle.grammar.specs.Tests.{is_symbol}
use Rattle.grammar.specs.Trees.{Formula, Item, comma, semicolon, shown}
use Rattle.grammar.specs.Formulas.{good, after, formula_of}
use Rattle.statements.specs.Statements.{is_separator}
use Rattle.variables.specs.declared.values.Worked.{Worked}
use Rattle.variables.specs.declared.values.Worked.TheVariants.{Whole, Text}
use Rattle.machine.specs.Machine as spec
use Rattle.machine.specs.bridge.Holding.{printed_as, Settled, Fitting, Same, State}
use Rattle.machine.specs.declared.state.Printer.{Printer}
use Rattle.machine.specs.declared.records.Record.{Record}
use Rattle.machine.proofs.Writing.{room_length, written_grows, room_above, fitting_after}
use Rattle.turns.specs.Steps as step
use Rattle.turns.specs.Steps.{written, shown_value}
use Rattle.turns.specs.bridge.Turns.{Valued, Leads, with_printer}
use Rattle.dialogue.specs.bridge.Showing.{shown_as, ShowsWorked, ItemAt, show_item, shown_met, printer_of, Onward, Shows}
use Rattle.turns.proofs.Leading.{leads_on, leads_self}
use Rattle.turns.proofs.Working.{leads_worked}
use Rattle.dialogue.proofs.Printing.{printed_met, leads_written}
use Rattle.whole.specs.declared.errors.Error.{Error}

-- ---- some bytes

shown_printer : (p : Printer) (o : Option Printer) (t : Scanned) → printer_of p (shown_as o t) ≡ unwrap_or o p
shown_printer p (Some q) t = refl
shown_printer p None t = refl

shown_met_lem : (q : Option Printer) (t : Scanned) (go : spec.Machine → step.Next) → shown_met (shown_as q t) go ≡ printed_met q go
shown_met_lem (Some p) t go = refl
shown_met_lem None t go = refl

shown_onward : (q : Option Printer) (t : Scanned) → Onward (shown_as q t) t
shown_onward (Some p) t = refl
shown_onward None t = tt

module _ {m : State} {i : Item} {space room space' : List ℕ} (fit : Fitting m.printer room) (bytes : List ℕ) (u : Scanned)
    (long : length space' ≡ length space) where
  pub shows_bytes : ((text : List ℕ) (rs : List Record) (input : List ℕ) (n : spec.Machine) → Same text rs m input space room n
      → (go : spec.Machine → step.Next)
      → Leads text rs (with_printer m (unwrap_or (printed_as m.printer (length room) bytes) m.printer)) input space' (copied room m.printer.written bytes)
      (show_item i n go) (printed_met (printed_as m.printer (length room) bytes) go))
      → Shows m i u space room (shown_as (printed_as m.printer (length room) bytes) u) space' (copied room m.printer.written bytes)
  shows_bytes h =
      let r = printed_as m.printer (length room) bytes in
      let e = shown_printer m.printer r u in
      record {
        space_long = long;
        room_long = room_length fit bytes;
        fitting = rw e (fitting_after fit bytes);
        more = rw e (written_grows fit bytes);
        beyond = rw e (room_above fit bytes);
        goes = shown_onward r u;
        leads = λ text rs input n same go. rw (e, shown_met_lem r u go) (h text rs input n same go);
      }

-- ---- items

module _ {m : State} {space room : List ℕ} (fit : Fitting m.printer room) (u : Scanned) where
  pub shows_comma : Shows m comma u space room
      (shown_as (printed_as m.printer (length room) (replicate (14 - m.printer.column % 14) blank)) u)
      space (copied room m.printer.written (replicate (14 - m.printer.column % 14) blank))
  shows_comma =
      shows_bytes fit (replicate (14 - m.printer.column % 14) blank) u refl
      (λ text rs input n same go.
      let blanks = replicate (14 - m.printer.column % 14) blank in
      let r = printed_as m.printer (length room) blanks in
      subst
      (λ k. Leads text rs (with_printer m (unwrap_or r m.printer)) input space (copied room m.printer.written blanks)
      (written n (replicate (14 - k % 14) blank) go) (printed_met r go))
      (sym same.column) (leads_written same fit blanks go))

  pub shows_semicolon : Shows m semicolon u space room (Ok (m.printer, u)) space room
  shows_semicolon =
      record {
        space_long = refl;
        room_long = refl;
        fitting = fit;
        more = le_refl _;
        beyond = refl;
        goes = refl;
        leads = λ text rs input n same go. leads_self same;
      }

-- equal answers show the same: over variables, as the terms that stand for them are dear to rewrite
shows_as : {m : State} {i : Item} {u : Scanned} {space room space' room' room'' : List ℕ} {r s : Result (Printer × Scanned) Error} → r ≡ s → room' ≡ room''
    → Shows m i u space room s space' room'' → Shows m i u space room r space' room'
shows_as e f h = rw (e, f) h

module _ {m : State} {f : Formula} {u : Scanned} {space room space' room' : List ℕ} {r : Result (Printer × Scanned) Error} (settled : Settled m space)
    (fit : Fitting m.printer room) where
  pub shows_worked : (w : Result Worked Error) → Valued m f u space w space' → ShowsWorked w m.used m.printer space' room r room'
      → Shows m (shown f) u space room r space' room'
  shows_worked (Err e) v (a, b) =
      shows_as a b
      (record {
        space_long = v.framed.long;
        room_long = refl;
        fitting = fit;
        more = le_refl _;
        beyond = refl;
        goes = tt;
        leads = λ text rs input n same go. leads_worked settled v same (λ x o. written o (shown_value x) go);
      })
  shows_worked (Ok (Whole w t)) v (a, b) =
      shows_as (a ∙ ap (shown_as (printed_as m.printer (length room) (texts.printed_number w))) v.goes) b
      (shows_bytes fit (texts.printed_number w) u v.framed.long
      (λ text rs input n same go.
      leads_on (leads_worked settled v same (λ x o. written o (shown_value x) go))
      (λ o s. leads_written s fit (texts.printed_number w) go)))
  shows_worked (Ok (Text len t)) v (a, b) =
      let bytes = take len (drop m.used space') in
      shows_as (a ∙ ap (shown_as (printed_as m.printer (length room) bytes)) v.goes) b
      (shows_bytes fit bytes u v.framed.long
      (λ text rs input n same go.
      leads_on (leads_worked settled v same (λ x o. written o (shown_value x) go))
      (λ o s. leads_written s fit bytes go)))

-- ---- by the token that begins it

module _ (line : List ℕ) (t : Scanned) {m : State} {space room space' room' : List ℕ} {r : Result (Printer × Scanned) Error} where
  pub at_comma : is_symbol Comma t.token ≡ true → Shows m comma (after line t) space room r space' room'
      → (i : Item) (u : Scanned) → ItemAt line t i u → Shows m i u space room r space' room'
  at_comma e h comma u (a, b) = rw b h
  at_comma e h semicolon u (a, b) = absurd (false≢true (sym a ∙ e))
  at_comma e h (shown f) u (a, b) = absurd (false≢true (sym a ∙ e))

  pub at_semicolon : is_symbol Comma t.token ≡ false → Shows m semicolon (after line t) space room r space' room'
      → is_separator t.token ≡ true → (i : Item) (u : Scanned) → ItemAt line t i u → Shows m i u space room r space' room'
  at_semicolon n h e comma u (a, b) = absurd (false≢true (sym n ∙ a))
  at_semicolon n h e semicolon u (a, (b, c)) = rw c h
  at_semicolon n h e (shown f) u (a, (b, c)) = absurd (false≢true (rw (a, b) at e))

  pub at_formula : is_separator t.token ≡ false
      → ((f : Formula) (u : Scanned) → formula_of line t ≡ good f u → Shows m (shown f) u space room r space' room')
      → (i : Item) (u : Scanned) → ItemAt line t i u → Shows m i u space room r space' room'
  at_formula e h comma u (a, b) = absurd (false≢true (sym (rw a at e)))
  at_formula e h semicolon u (a, (b, c)) = absurd (false≢true (sym (rw (a, b) at e)))
  at_formula e h (shown f) u (a, (b, c)) = h f u c
