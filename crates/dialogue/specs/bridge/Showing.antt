-- Bridge: what the code of a PRINT is asked, and what it leaves, item by item.
-- The contracts of functions that crates use among themselves cite it; no demand and no promise of run, check_recipe or ask rests on it.
use Rattle.std.specs.Prelude.{◌≡◌, Bool, true, false, cond, List, [], ◌∷◌, ℕ, ◌≤◌, length, take, drop, Option, Some, None, Result, Ok, Err}
use Rattle.whole.specs.Texts as texts
use Rattle.whole.specs.declared.errors.Error.TheVariants.{OutputFull}
use Rattle.words.specs.declared.places.Place.{Place}
use Rattle.words.specs.declared.symbols.Scanned.{Scanned}
use Rattle.words.specs.declared.symbols.Sign.TheVariants.{Comma, Semicolon}
use Rattle.words.specs.Places.{longest_line}
use Rattle.space.specs.Moves.{copied}
use Rattle.grammar.specs.Tests.{is_symbol, ends_statement}
use Rattle.grammar.specs.Trees.{Item, comma, semicolon, shown}
use Rattle.grammar.specs.Formulas.{good, after, formula_of}
use Rattle.expressions.specs.Types.{deepest_nesting}
use Rattle.statements.specs.Parts.{item_formulas, deepest}
use Rattle.statements.specs.Statements.{items}
use Rattle.statements.specs.bridge.Answers.{items_of}
use Rattle.operators.specs.Values.{value_of}
use Rattle.formulas.specs.bridge.Memory.{Scans}
use Rattle.variables.specs.declared.values.Worked.{Worked}
use Rattle.variables.specs.declared.values.Worked.TheVariants as worked
use Rattle.machine.specs.Machine as spec
use Rattle.machine.specs.Machine.{room_of, comma_blanks}
use Rattle.machine.specs.bridge.Holding.{State, printed_as, Fitting, Same}
use Rattle.machine.specs.declared.state.Printer.{Printer}
use Rattle.machine.specs.declared.positions.Next.TheVariants as next
use Rattle.machine.specs.declared.records.Record.{Record}
use Rattle.turns.specs.Steps as step
use Rattle.turns.specs.Steps.{fails, written, shown_value}
use Rattle.turns.specs.bridge.Turns.{Turn, turned_to, after_of, Leads, with_printer}
use Rattle.whole.specs.declared.errors.Error.{Error}

-- some bytes are written, if there is room for all
abbrev pub Writes : Printer → List ℕ → List ℕ → Option Printer → List ℕ → Type 0
Writes p room bytes r room' = (r ≡ printed_as p (length room) bytes) × (room' ≡ copied room p.written bytes)

abbrev pub shown_as : Option Printer → Scanned → Result (Printer × Scanned) Error
shown_as (Some p) t = Ok (p, t)
shown_as None t = Err OutputFull

-- what was worked out is shown, where a text stands from `used` on
abbrev pub ShowsWorked : Result Worked Error → ℕ → Printer → List ℕ → List ℕ → Result (Printer × Scanned) Error → List ℕ → Type 0
ShowsWorked (Err e) used p space room r room' = (r ≡ Err e) × (room' ≡ room)
ShowsWorked (Ok (worked.Whole w t)) used p space room r room' =
    (r ≡ shown_as (printed_as p (length room) (texts.printed_number w)) t) × (room' ≡ copied room p.written (texts.printed_number w))
ShowsWorked (Ok (worked.Text len t)) used p space room r room' =
    (r ≡ shown_as (printed_as p (length room) (take len (drop used space))) t)
    × (room' ≡ copied room p.written (take len (drop used space)))

-- the items of a PRINT that read from a token of the line on, up to one that ends the statement
pub record Itemed (line : List ℕ) (first : Scanned) : Type 0 where
  pub short : length line ≤ longest_line
  pub scans : Scans line first
  pub all : List Item
  pub end : Scanned
  pub reads : items_of line first ≡ items all end
  pub ends : ends_statement end.token ≡ true
  pub shallow : deepest (item_formulas all) ≤ deepest_nesting

-- ---- an item

-- the one that a token of the line begins, and the token after it
abbrev pub ItemAt : List ℕ → Scanned → Item → Scanned → Type 0
ItemAt line t comma u = (is_symbol Comma t.token ≡ true) × (u ≡ after line t)
ItemAt line t semicolon u = (is_symbol Comma t.token ≡ false) × ((is_symbol Semicolon t.token ≡ true) × (u ≡ after line t))
ItemAt line t (shown f) u = (is_symbol Comma t.token ≡ false) × ((is_symbol Semicolon t.token ≡ false) × (formula_of line t ≡ good f u))

-- what the definition does with it before it goes on
abbrev pub show_item : Item → spec.Machine → (spec.Machine → step.Next) → step.Next
show_item comma m go = written m (comma_blanks m) go
show_item semicolon m go = go m
show_item (shown f) m go = step.worked m (value_of f m.variables (room_of m)) (λ v n. written n (shown_value v) go)

-- by the code's answer: what is done next, the printer then, and the token that it goes on with
abbrev pub shown_met : Result (Printer × Scanned) Error → (spec.Machine → step.Next) → spec.Machine → step.Next
shown_met (Ok (p, t)) go = go
shown_met (Err e) go = fails e

abbrev pub printer_of : Printer → Result (Printer × Scanned) Error → Printer
printer_of p (Ok (q, t)) = q
printer_of p (Err e) = p

abbrev pub Onward : Result (Printer × Scanned) Error → Scanned → Type 0
Onward (Ok (p, t)) u = t ≡ u
Onward (Err e) u = Unit {0}

-- the memory and the machine after it
pub record Shows (m : State) (i : Item) (u : Scanned) (space room : List ℕ) (r : Result (Printer × Scanned) Error) (space' room' : List ℕ) : Type 0 where
  pub space_long : length space' ≡ length space
  pub room_long : length room' ≡ length room
  pub fitting : Fitting (printer_of m.printer r) room'
  pub more : m.printer.written ≤ (printer_of m.printer r).written
  pub beyond : drop (printer_of m.printer r).written room' ≡ drop (printer_of m.printer r).written room
  pub goes : Onward r u
  pub leads : (text : List ℕ) (rs : List Record) (input : List ℕ) (n : spec.Machine) → Same text rs m input space room n
      → (go : spec.Machine → step.Next)
      → Leads text rs (with_printer m (printer_of m.printer r)) input space' room' (show_item i n go) (shown_met r go)

-- ---- the line's end

abbrev pub line_end : List ℕ
line_end = 13 ∷ 10 ∷ []

abbrev pub end_written : State → Option Printer → Place → Scanned → Turn
end_written m (Some p) here t = turned_to (with_printer m p) (next.On (after_of here t))
end_written m None here t = turned_to m (next.Fails OutputFull)

-- without a final `,` or `;` it is written
abbrev pub ended_turn : State → Bool → ℕ → Place → Scanned → Turn
ended_turn m quiet long here t =
    cond quiet (turned_to m (next.On (after_of here t))) (end_written m (printed_as m.printer long line_end) here t)

abbrev pub ended_room : Printer → Bool → List ℕ → List ℕ
ended_room p quiet room = cond quiet room (copied room p.written line_end)
