-- The code's loop over the items of a PRINT.
use Rattle.std.specs.Prelude.{Err, Ok}
use Rattle.std.specs.Option.{unwrap_or}
use mathlib.Core.Path.{◌≡◌, refl, ◌∙◌}
use mathlib.Core.Bool.{Bool, true, false, cond}
use mathlib.Core.List.{List, [], ◌∷◌}
use Prim.Native.Nat.{◌≤◌, ℕ, ◌+◌}
use borrow.Author.Tests.{le-leb, lt-leb}
use native.Mathlib.Omega.{arith}
use lib.ListN.{length}
use Rattle.whole.specs.declared.errors.Error.{Error}
use Rattle.words.specs.declared.places.Place.{Place}
use Rattle.words.specs.declared.symbols.Scanned.{Scanned}
use Rattle.words.proofs.Choices.{by_test}
use Rattle.space.specs.Moves.{copied}
use Rattle.space.proofs.Bounds.{by_bound}
use Rattle.grammar.specs.Tests.{ends_statement}
use Rattle.grammar.specs.Trees as tree
use Rattle.grammar.specs.Trees.{Item, comma, semicolon, shown}
use Rattle.expressions.specs.Types.{deepest_nesting}
use Rattle.statements.specs.Parts.{item_formulas, deepest}
use Rattle.statements.specs.Statements.{items, is_separator}
use Rattle.statements.specs.bridge.Answers.{items_of}
use Rattle.machine.specs.Machine as spec
use Rattle.machine.specs.bridge.Holding.{position_of, Positioned, printed_as, Settled, Fitting, Sound, Same, State}
use Rattle.machine.specs.declared.state.Printer.{Printer}
use Rattle.machine.specs.declared.positions.Next.TheVariants as next
use Rattle.machine.specs.declared.records.Record.{Record}
use Rattle.machine.proofs.Writing.{room_length, written_grows, room_above, fitting_after}
use Rattle.turns.specs.Steps as step
use Rattle.turns.specs.Steps.{goes_on, print_items, do_statement}
use Rattle.turns.specs.bridge.Turns.{turned_to, after_of, Leads, Turns, AnyRecords, with_printer}
use Rattle.dialogue.specs.bridge.Showing.{Itemed, show_item, Shows, line_end, end_written, ended_turn, ended_room}
use Rattle.turns.proofs.Leading.{Led, leads_on, leads_self, turns_fails, turns_on}
use Rattle.dialogue.proofs.Printing.{printed_met, leads_written, Printed, printed_none, printed_more, printed_leaves}
use Rattle.dialogue.proofs.Items.{Fresh, separates_item, Advances, no_items}

-- ---- what the definition does with the items

print_first : (quiet : Bool) (i : Item) (is : List Item) (m : spec.Machine) (go : spec.Machine → step.Next)
    → print_items quiet (i ∷ is) m go ≡ show_item i m (λ n. print_items (separates_item i) is n go)
unfolding print_items
print_first quiet comma is m go = refl
print_first quiet semicolon is m go = refl
print_first quiet (shown f) is m go = refl

print_none : (quiet : Bool) (m : spec.Machine) (go : spec.Machine → step.Next)
    → print_items quiet [] m go ≡ cond quiet (go m) (step.written m line_end go)
unfolding print_items
print_none quiet m go = refl

-- ---- the line's end

module _ {m : State} {space room : List ℕ} {m' : State} {space' room' : List ℕ} (h : Printed m space room m' space' room')
    (text input : List ℕ) (here : Place) (u : Scanned) (sound : Sound m input space room) (p : Positioned text (after_of here u))
    {does : spec.Machine → step.Next} where
  -- after the last bytes the run goes on, if there was room for them
  turns_written : (bytes : List ℕ)
      → Led text m input space room AnyRecords does m' space' room' (λ o. step.written o bytes (λ n. goes_on n (position_of text (after_of here u))))
      → Turns text m input space room AnyRecords does (end_written m' (printed_as m'.printer (length room') bytes) here u)
      space' (copied room' m'.printer.written bytes)
  turns_written bytes l =
      let go : spec.Machine → step.Next = λ n. goes_on n (position_of text (after_of here u)) in
      let fit = h.fitting in
      let r = printed_as m'.printer (length room') bytes in
      let k : Printed m space room (with_printer m' (unwrap_or r m'.printer)) space' (copied room' m'.printer.written bytes) =
      printed_more h (unwrap_or r m'.printer) refl (room_length fit bytes) (fitting_after fit bytes) (written_grows fit bytes) (room_above fit bytes) in
      let led : Led text m input space room AnyRecords does (with_printer m' (unwrap_or r m'.printer)) space' (copied room' m'.printer.written bytes)
      (printed_met r go) = λ rs t n same. leads_on (l rs t n same) (λ o q. leads_written q fit bytes go) in
      by_bound (m'.printer.written + length bytes) (length room')
      (λ b. let y = le-leb (m'.printer.written + length bytes) (length room') b in rw y (turns_on (printed_leaves (rw y at k) sound) p (rw y at led)))
      (λ b. let y = lt-leb (m'.printer.written + length bytes) (length room') b in rw y (turns_fails (printed_leaves (rw y at k) sound) (rw y at led)))

-- ---- the loop

-- fewer items nest no deeper
fewer_shallow : (i : Item) (is : List Item) → deepest (item_formulas (i ∷ is)) ≤ deepest_nesting → deepest (item_formulas is) ≤ deepest_nesting
unfolding deepest
fewer_shallow comma is h = h
fewer_shallow semicolon is h = h
fewer_shallow (shown f) is h = omega arith

-- what it has come to: the items from a token on are left
pub record Prints (line : List ℕ) (all : List Item) (end : Scanned) (m : State) (space room : List ℕ) (m' : State) (item : Scanned) (quiet : Bool) (space' room' : List ℕ) : Type 0 where
  pub rest : List Item
  pub reads : items_of line item ≡ items rest end
  pub shallow : deepest (item_formulas rest) ≤ deepest_nesting
  pub fresh : Fresh line item
  pub printed : Printed m space room m' space' room'
  pub leads : (text : List ℕ) (rs : List Record) (input : List ℕ) (n : spec.Machine) → Same text rs m input space room n
      → (go : spec.Machine → step.Next)
      → Leads text rs m' input space' room' (print_items false all n go) (λ o. print_items quiet rest o go)

module _ {line : List ℕ} {first : Scanned} (i : Itemed line first) {all : List Item} {end : Scanned} (e : items_of line first ≡ items all end) where
  -- the items end where the statement does
  pub items_end : ends_statement end.token ≡ true
  items_end = let f = i.reads in let k : i.end ≡ end = cc in rw (← k) i.ends

  pub prints_begin : {m : State} {space room : List ℕ} → Settled m space → Fitting m.printer room
      → Prints line all end m space room m first false space room
  prints_begin s f =
      record {
        rest = all;
        reads = e;
        shallow = let f = i.reads in let k : i.all ≡ all = cc in rw (← k) i.shallow;
        fresh = λ _ _. i.scans;
        printed = printed_none s f;
        leads = λ text rs input n same go. leads_self same;
      }

module _ {line : List ℕ} {all : List Item} {end : Scanned} {m : State} {space room : List ℕ} {m' : State} {item : Scanned} {quiet : Bool}
    {space' room' : List ℕ} (h : Prints line all end m space room m' item quiet space' room') where
  module _ (a : Advances line item h.rest end) where
    -- the next item's step
    leads_item : (text : List ℕ) (rs : List Record) (input : List ℕ) (n : spec.Machine) → Same text rs m input space room n
        → (go : spec.Machine → step.Next)
        → Leads text rs m' input space' room' (print_items false all n go)
        (λ o. show_item a.first o (λ o. print_items (is_separator item.token) a.others o go))
    leads_item text rs input n same go =
        let l = h.leads text rs input n same go in
        record {
          machine = l.machine;
          is = l.is ∙ rw (a.is, a.separates) (print_first quiet a.first a.others l.machine go);
          same = l.same;
        }

    -- it is shown, and the others are left
    pub prints_on : {p : Printer} {u : Scanned} {space'' room'' : List ℕ}
        → Shows m' a.first a.next space' room' (Ok (p, u)) space'' room''
        → Prints line all end m space room (with_printer m' p) u (is_separator item.token) space'' room''
    prints_on {p} s =
        rw s.goes
        (record {
          rest = a.others;
          reads = a.reads;
          shallow = fewer_shallow a.first a.others (rw a.is at h.shallow);
          fresh = a.fresh;
          printed = printed_more h.printed p s.space_long s.room_long s.fitting s.more s.beyond;
          leads = λ text rs input n same go.
              leads_on (leads_item text rs input n same go)
              (λ o e. s.leads text rs input o e (λ o. print_items (is_separator item.token) a.others o go));
        })

    -- an error ends the statement
    pub prints_fails : {e : Error} {space'' room'' : List ℕ}
        → Shows m' a.first a.next space' room' (Err e) space'' room''
        → (text input : List ℕ) (here : Place) (at : ℕ) → Sound m input space room
        → Turns text m input space room AnyRecords (λ n. do_statement text at (tree.print all) n (position_of text (after_of here end)))
        (turned_to m' (next.Fails e)) space'' room''
    prints_fails s text input here at sound =
        turns_fails
        (printed_leaves (printed_more h.printed m'.printer s.space_long s.room_long s.fitting s.more s.beyond) sound)
        (λ rs t n same.
        leads_on (leads_item text rs input n same (λ o. goes_on o (position_of text (after_of here end))))
        (λ o e. s.leads text rs input o e
        (λ o. print_items (is_separator item.token) a.others o (λ o. goes_on o (position_of text (after_of here end))))))

  -- none is left: without a final `,` or `;` the line ends
  pub prints_ends : ends_statement item.token ≡ true → (text input : List ℕ) (here : Place) (at : ℕ) → Sound m input space room
      → Positioned text (after_of here end)
      → Turns text m input space room AnyRecords (λ n. do_statement text at (tree.print all) n (position_of text (after_of here end)))
      (ended_turn m' quiet (length room') here item) space' (ended_room m'.printer quiet room')
  prints_ends e text input here at sound p =
      let z = no_items line item h.reads e in
      let go : spec.Machine → step.Next = λ o. goes_on o (position_of text (after_of here end)) in
      let led : Led text m input space room AnyRecords (λ n. print_items false all n go) m' space' room'
      (λ o. cond quiet (go o) (step.written o line_end go)) = λ rs t n same.
      let k = h.leads text rs input n same go in
      record { machine = k.machine; is = k.is ∙ rw z.0 (print_none quiet k.machine go); same = k.same } in
      rw (← z.1)
      (by_test quiet
      (λ q. rw q (turns_on (printed_leaves h.printed sound) p (rw q at led)))
      (λ q. rw q (turns_written h.printed text input here end sound p line_end (rw q at led))))
