-- Bridge: what the code makes of a left side, and of both sides of an operator.
-- The contracts of functions that crates use among themselves cite it; no demand and no promise of run, check_recipe or ask rests on it.
use Rattle.std.specs.Prelude.{◌≡◌, Bool, true, false, cond, not, List, ℕ, ◌+◌, ltb, take, drop, None, Option, Some, Result, Ok, Err}
use Rattle.std.specs.declared.cmp.Ordering.{Ordering}
use Rattle.std.specs.declared.cmp.Ordering.TheVariants.{Less, Equal, Greater}
use Rattle.std.specs.Ordering.{is_lt, is_eq, is_gt}
use Rattle.variables.specs.Strings.{Value, whole, text, Room}
use Rattle.whole.specs.declared.arithmetic.Operator.{Operator}
use Rattle.whole.specs.declared.arithmetic.Operator.TheVariants as operator
use Rattle.whole.specs.declared.errors.Error.TheVariants.{StringTooLong, OutOfStringSpace, TypeMismatch}
use Rattle.whole.specs.Texts.{longest_string}
use Rattle.words.specs.declared.symbols.Scanned.{Scanned}
use Rattle.words.specs.declared.places.Place.{Place}
use Rattle.grammar.specs.Formulas.{tight_operator}
use Rattle.operators.specs.Values.{is_before, wants_whole, joined}
use Rattle.variables.specs.declared.values.Worked.{Worked}
use Rattle.variables.specs.declared.values.Worked.TheVariants as worked
use Rattle.variables.specs.bridge.Memory.{Agrees, GoesOn, Held}
use Rattle.whole.specs.declared.errors.Error.{Error}

-- ---- two texts side by side

abbrev pub order_of : List ℕ → List ℕ → Ordering
order_of a b = cond (is_before a b) Less (cond (is_before b a) Greater Equal)

-- whether a comparison holds of two texts in an order
abbrev pub holds_in : Operator → Ordering → Bool
holds_in operator.Multiply o = false
holds_in operator.Divide o = false
holds_in operator.Modulo o = false
holds_in operator.Add o = false
holds_in operator.Subtract o = false
holds_in operator.Equal o = is_eq o
holds_in operator.Unequal o = not (is_eq o)
holds_in operator.Less o = is_lt o
holds_in operator.Greater o = is_gt o
holds_in operator.AtMost o = not (is_gt o)
holds_in operator.AtLeast o = not (is_lt o)
holds_in operator.And o = false
holds_in operator.Or o = false
holds_in operator.Xor o = false
holds_in operator.Eqv o = false
holds_in operator.Imp o = false

-- ---- what small functions make

-- a left side of a type that an operator takes
abbrev pub takes_left : Operator → Worked → Bool
takes_left op (worked.Whole w t) = true
takes_left op (worked.Text n t) = not (wants_whole op)

-- an operator that follows a left side takes it or not
abbrev pub turn_by : Worked → Place → Option Operator → Result (Option (Operator × Place)) Error
turn_by left next (Some op) = cond (takes_left op left) (Ok (Some (op, next))) (Err TypeMismatch)
turn_by left next None = Ok None

-- only one of a level or a tighter one counts, and after an error none does
abbrev pub turn_before : ℕ → Worked → Scanned → Result (Option (Operator × Place)) Error
turn_before level left t = turn_by left t.next (tight_operator level t.token)

abbrev pub turn_as : ℕ → Result Worked Error → Result (Option (Operator × Place)) Error
turn_as level (Ok (worked.Whole w t)) = turn_before level (worked.Whole w t) t
turn_as level (Ok (worked.Text n t)) = turn_before level (worked.Text n t) t
turn_as level (Err e) = Ok None

-- a text of so many bytes, or room for it is missing
abbrev pub joined_length : ℕ → ℕ → ℕ → ℕ → Scanned → Result Worked Error
joined_length limit used a b t =
    cond (ltb longest_string (a + b)) (Err StringTooLong)
    (cond (ltb limit (used + (a + b) + (a + b))) (Err OutOfStringSpace) (Ok (worked.Text (a + b) t)))

-- what an operator makes of a left value and the right side's answer, whose text stands from `next` on: its error, or what the
-- operator makes of both values
abbrev pub RightMet : Operator → Value → ℕ → Result Worked Error → List ℕ → ℕ → Result Worked Error → Type 0
RightMet op a next (Err e) space used r = r ≡ Err e
RightMet op a next (Ok (worked.Whole b t)) space used r =
    ((room : Room) → Held room space next → Agrees r space used (joined op a (whole b) room)) × GoesOn r t
RightMet op a next (Ok (worked.Text n t)) space used r =
    ((room : Room) → Held room space (next + n) → Agrees r space used (joined op a (text (take n (drop next space))) room))
    × GoesOn r t

-- and of both sides' answers: the first error stands
abbrev pub SidesMet : Operator → Result Worked Error → Result Worked Error → List ℕ → ℕ → Result Worked Error → Type 0
SidesMet op (Err e) right space used r = r ≡ Err e
SidesMet op (Ok (worked.Whole a t)) right space used r = RightMet op (whole a) used right space used r
SidesMet op (Ok (worked.Text n t)) right space used r = RightMet op (text (take n (drop used space))) (used + n) right space used r
