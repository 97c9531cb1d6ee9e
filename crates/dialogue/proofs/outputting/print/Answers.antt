-- The loop keeps that the items from a token on are left, and what the definition has come to. Its measure is their weight.
use mathlib.Core.Path.{◌≡◌, sym, ◌∙◌}
use mathlib.Core.Bool.{false}
use mathlib.Core.List.{List}
use native.Mathlib.Omega.{arith}
use borrow.Author.Rules.{rules}
use Rattle.words.specs.declared.symbols.Scanned.{Scanned}
use Rattle.grammar.specs.Tests.{ends_statement}
use Rattle.grammar.specs.Trees.{Item}
use Rattle.statements.specs.Statements.{items}
use Rattle.statements.specs.bridge.Answers.{items_of}
use Rattle.dialogue.proofs.Items.{Advances, formed_item, advances}
use Rattle.dialogue.proofs.Prints.{items_end, prints_begin, prints_on, prints_fails, prints_ends}
use Rattle.dialogue.proofs.outputting.print.Goals as goal

pub loop-room-init : goal.loop-room-init
loop-room-init c = λ all end e. prints_begin c.requires.0 e c.requires.1.0 c.requires.1.1

pub print_end-requires : goal.print_end-requires
print_end-requires c = (c.loop-room.invariant c.requires.0.all c.requires.0.end c.requires.0.reads).printed.fitting

pub shape_of-space-then-ends_items : goal.shape_of-space-then-ends_items
shape_of-space-then-ends_items c = search (rules, (c.loop-room.invariant c.requires.0.all c.requires.0.end c.requires.0.reads).printed.space_long)

pub shape_of-room-then-ends_items : goal.shape_of-room-then-ends_items
shape_of-room-then-ends_items c = search (rules, (c.loop-room.invariant c.requires.0.all c.requires.0.end c.requires.0.reads).printed.room_long)

pub returns-then-ends_items : goal.returns-then-ends_items
returns-then-ends_items c = λ text input at is u sound placed e.
    rw (c.print_end.ensures.0 c.args.tables.now, c.print_end.ensures.1)
    (prints_ends (c.loop-room.invariant is u e) (sym c.ends_items.ensures ∙ c.if-ends_items.true) text input
    c.args.here at sound placed)

pub print_item-requires : goal.print_item-requires
print_item-requires c =
    let goes_on : ends_statement c.loop-room.item.token ≡ false = sym c.ends_items.ensures ∙ c.if-ends_items.false in
    let h = c.loop-room.invariant c.requires.0.all c.requires.0.end c.requires.0.reads in (
      formed_item c.args.line.now c.loop-room.item h.reads (goes_on) c.requires.0.short h.shallow h.fresh,
      (h.printed.settled, h.printed.fitting),
    )

pub shape_of-space-in-Err : goal.shape_of-space-in-Err
shape_of-space-in-Err c =
    let goes_on : ends_statement c.loop-room.item.token ≡ false = sym c.ends_items.ensures ∙ c.if-ends_items.false in
    let next_item : (all : List Item) → (end : Scanned) → (e : items_of c.args.line.now c.args.first ≡ items all end) → Advances c.args.line.now c.loop-room.item (c.loop-room.invariant all end e).rest end = λ all end e. advances c.args.line.now c.loop-room.item (c.loop-room.invariant all end e).reads goes_on
    (items_end c.requires.0 e) in
    let a = next_item _ _ c.requires.0.reads in
    (c.print_item.ensures a.first a.next a.at).space_long ∙ (c.loop-room.invariant _ _ c.requires.0.reads).printed.space_long

pub shape_of-room-in-Err : goal.shape_of-room-in-Err
shape_of-room-in-Err c =
    let goes_on : ends_statement c.loop-room.item.token ≡ false = sym c.ends_items.ensures ∙ c.if-ends_items.false in
    let next_item : (all : List Item) → (end : Scanned) → (e : items_of c.args.line.now c.args.first ≡ items all end) → Advances c.args.line.now c.loop-room.item (c.loop-room.invariant all end e).rest end = λ all end e. advances c.args.line.now c.loop-room.item (c.loop-room.invariant all end e).reads goes_on
    (items_end c.requires.0 e) in
    let a = next_item _ _ c.requires.0.reads in
    (c.print_item.ensures a.first a.next a.at).room_long ∙ (c.loop-room.invariant _ _ c.requires.0.reads).printed.room_long

pub returns-in-Err : goal.returns-in-Err
returns-in-Err c =
    let goes_on : ends_statement c.loop-room.item.token ≡ false = sym c.ends_items.ensures ∙ c.if-ends_items.false in
    let next_item : (all : List Item) → (end : Scanned) → (e : items_of c.args.line.now c.args.first ≡ items all end) → Advances c.args.line.now c.loop-room.item (c.loop-room.invariant all end e).rest end = λ all end e. advances c.args.line.now c.loop-room.item (c.loop-room.invariant all end e).reads goes_on
    (items_end c.requires.0 e) in
    λ text input at is u sound placed e.
    let a = next_item _ _ e in
    rw c.fails.ensures
    (prints_fails (c.loop-room.invariant is u e) a (rw c.in-Err.is at (c.print_item.ensures a.first a.next a.at))
    text input c.args.here at sound)

pub loop-room-smaller : goal.loop-room-smaller
loop-room-smaller c =
    let goes_on : ends_statement c.loop-room.item.token ≡ false = sym c.ends_items.ensures ∙ c.if-ends_items.false in
    let next_item : (all : List Item) → (end : Scanned) → (e : items_of c.args.line.now c.args.first ≡ items all end) → Advances c.args.line.now c.loop-room.item (c.loop-room.invariant all end e).rest end = λ all end e. advances c.args.line.now c.loop-room.item (c.loop-room.invariant all end e).reads goes_on
    (items_end c.requires.0 e) in
    let a = next_item _ _ c.requires.0.reads in
    let s = rw c.in-Ok.is at (c.print_item.ensures a.first a.next a.at) in
    rw s.goes (omega (arith, a.lighter))

pub loop-room-preserved : goal.loop-room-preserved
loop-room-preserved c =
    let goes_on : ends_statement c.loop-room.item.token ≡ false = sym c.ends_items.ensures ∙ c.if-ends_items.false in
    let next_item : (all : List Item) → (end : Scanned) → (e : items_of c.args.line.now c.args.first ≡ items all end) → Advances c.args.line.now c.loop-room.item (c.loop-room.invariant all end e).rest end = λ all end e. advances c.args.line.now c.loop-room.item (c.loop-room.invariant all end e).reads goes_on
    (items_end c.requires.0 e) in
    λ all end e.
    let a = next_item _ _ e in
    rw (c.with_printer-m.ensures c.args.tables.now, c.separates-quiet.ensures)
    (prints_on (c.loop-room.invariant all end e) a
    (rw c.in-Ok.is at (c.print_item.ensures a.first a.next a.at)))
