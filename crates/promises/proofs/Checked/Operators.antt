-- What operators and functions come to: a value of the type that they give, or an error that is none of 2, 8, 13 and 16.
use Rattle.std.specs.Prelude.{Err, Ok, Result, ℕ}
use mathlib.Core.Path.{◌≡◌, refl}
use mathlib.Core.Bool.{Bool, true, false, cond, not, ◌&&◌}
use mathlib.Core.List.{List, [], ◌∷◌, ◌++◌}
use Prim.Native.Nat.{ℕ, ◌+◌, ◌-◌}
use lib.Dec.{leb, ltb, eqb}
use lib.IntN.{ℤ, pos, negsuc}
use lib.Signed.{lt_z, le_z}
use lib.ListN.{length, drop}
use Rattle.whole.specs.Bytes.{is}
use Rattle.whole.specs.Digits.{signed_value, val_of, sign_length, digits_only, number_item}
use Rattle.whole.specs.Texts.{signed_numeral, hexadecimal, longest_string}
use Rattle.whole.specs.Whole.{num, fit, say, unless_zero, applied, magnitude}
use Rattle.whole.specs.declared.arithmetic.Operator.{Operator}
use Rattle.whole.specs.declared.arithmetic.Operator.TheVariants as operator
use Rattle.whole.specs.declared.errors.Error.{Error}
use Rattle.whole.specs.declared.errors.Error.TheVariants.{TypeMismatch}
use Rattle.words.specs.Spellings.{same_bytes}
use Rattle.words.specs.declared.symbols.Function.{Function}
use Rattle.words.specs.declared.symbols.Function.TheVariants.{Len, Asc, Chr, Left, Right, Mid, Space, String, Instr, Str, Hex, Val, Abs, Sgn, Fre}
use Rattle.grammar.specs.Functions.{gives}
use Rattle.expressions.specs.Types.{of_kind, whole_only, common_sort, compared, joined_sort}
use Rattle.expressions.specs.declared.sorts.Sort.{Sort}
use Rattle.expressions.specs.declared.sorts.Sort.TheVariants.{Whole, Text, Wrong}
use Rattle.variables.specs.Strings.{Value, whole, text, Room, Outcome, value, fault, then, make, let_all_go, produced}
use Rattle.strings.specs.Functions.{argument, word, bytes, answered, within, ranged, fill_right, mid_length, instr_start, called}
use Rattle.operators.specs.Values.{whole_then, is_before, on_texts, joined, wants_whole, left_right, sides}
use Rattle.whole.specs.Errors.{error_number}
use Rattle.promises.specs.Passing.{spared_numbers, one_of}

-- what holds of both sides of a choice holds of what is chosen
pub by_choice : {A : Type 0} (P : A → Type 0) (t : Bool) {a b : A} → P a → P b → P (cond t a b)
by_choice P true p q = p
by_choice P false p q = q

-- an error that the check does not look for
abbrev pub Allowed : Error → Type 0
Allowed e = one_of spared_numbers (error_number e) ≡ false

-- ---- whole numbers

abbrev pub Answers : Result ℕ Error → Type 0
Answers (Ok w) = Unit {0}
Answers (Err e) = Allowed e

pub fit_answers : (z : ℤ) → Answers (fit z)
unfolding fit
fit_answers z = by_choice Answers (lt_z (pos 32767) z) refl (by_choice Answers (lt_z z (negsuc 32767)) refl tt)

say_answers : (t : Bool) → Answers (say t)
say_answers true = tt
say_answers false = tt

divided_answers : (b : ℕ) (z : ℤ) → Answers (unless_zero b (fit z))
divided_answers b z = by_choice Answers (eqb b 0) refl (fit_answers z)

pub applied_answers : (op : Operator) (a b : ℕ) → Answers (applied op a b)
applied_answers operator.Multiply a b = fit_answers _
applied_answers operator.Divide a b = divided_answers b _
applied_answers operator.Modulo a b = divided_answers b _
applied_answers operator.Add a b = fit_answers _
applied_answers operator.Subtract a b = fit_answers _
applied_answers operator.Equal a b = say_answers (eqb a b)
applied_answers operator.Unequal a b = say_answers (not (eqb a b))
applied_answers operator.Less a b = say_answers (lt_z (num a) (num b))
applied_answers operator.Greater a b = say_answers (lt_z (num b) (num a))
applied_answers operator.AtMost a b = say_answers (le_z (num a) (num b))
applied_answers operator.AtLeast a b = say_answers (le_z (num b) (num a))
applied_answers operator.And a b = tt
applied_answers operator.Or a b = tt
applied_answers operator.Xor a b = tt
applied_answers operator.Eqv a b = tt
applied_answers operator.Imp a b = tt

val_answers : (s : List ℕ) → Answers (signed_value s)
unfolding signed_value
val_answers [] = fit_answers _
val_answers (b ∷ s) =
    by_choice Answers (is "-" b) (fit_answers _) (by_choice Answers (is "+" b) (fit_answers _) (fit_answers _))

-- an item read as a number
pub number_answers : (s : List ℕ) → Answers (number_item s)
unfolding number_item
number_answers s = by_choice Answers (digits_only (drop (sign_length s) s)) (val_answers s) refl

-- ---- outcomes

-- what working out a formula of a type may come to; nothing is said of one that is wrong
abbrev pub Fits : Sort → Outcome → Type 0
Fits Whole (value (whole w) room) = Unit {0}
Fits Whole (value (text b) room) = ⊥
Fits Whole (fault e room) = Allowed e
Fits Text (value (whole w) room) = ⊥
Fits Text (value (text b) room) = Unit {0}
Fits Text (fault e room) = Allowed e
Fits Wrong o = Unit {0}

pub fault_fits : (s : Sort) (e : Error) (room : Room) → Allowed e → Fits s (fault e room)
fault_fits Whole e room h = h
fault_fits Text e room h = h
fault_fits Wrong e room h = tt

pub answered_fits : (a : Result ℕ Error) (operands : List Value) (room : Room) → Answers a → Fits Whole (answered a operands room)
answered_fits (Ok w) operands room h = tt
answered_fits (Err e) operands room h = h

pub make_fits : (bytes : List ℕ) (room : Room) → Fits Text (make bytes room)
unfolding make
make_fits bytes room = by_choice (Fits Text) (ltb room.limit (room.live + length bytes)) refl tt

-- what follows a value
then-whole : (s : Sort) (o : Outcome) (go : Value → Room → Outcome) → Fits Whole o
    → ((w : ℕ) (room : Room) → Fits s (go (whole w) room)) → Fits s (then o go)
then-whole s (value (whole w) room) go h k = k w room
then-whole s (value (text b) room) go h k = absurd h
then-whole s (fault e room) go h k = fault_fits s e room h

then-text : (s : Sort) (o : Outcome) (go : Value → Room → Outcome) → Fits Text o
    → ((b : List ℕ) (room : Room) → Fits s (go (text b) room)) → Fits s (then o go)
then-text s (value (whole w) room) go h k = absurd h
then-text s (value (text b) room) go h k = k b room
then-text s (fault e room) go h k = fault_fits s e room h

-- ---- operators

-- a minus sign, NOT
pub sign_fits : (s : Sort) (o : Outcome) (go : ℕ → Room → Outcome) → Fits s o → ((w : ℕ) (room : Room) → Fits Whole (go w room))
    → Fits (whole_only s) (whole_then o go)
sign_fits Whole (value (whole w) room) go h k = k w room
sign_fits Whole (value (text b) room) go h k = absurd h
sign_fits Whole (fault e room) go h k = h
sign_fits Text o go h k = tt
sign_fits Wrong o go h k = tt

-- the right side of a text
abbrev right_of : Operator → List ℕ → Room → Outcome → Outcome
right_of op a room right =
    cond (left_right op (text a)) (then right (λ b after. joined op (text a) b after)) (fault TypeMismatch room)

-- both sides of one type, from which the operator's is given
module _ (op : Operator) (given : Sort → Sort) (wholes : given Whole ≡ Whole) (wrongs : given Wrong ≡ Wrong)
    (texts : (a : List ℕ) (room : Room) (right : Outcome) → Fits Text right → Fits (given Text) (right_of op a room right)) where
  given_fits : (s t : Sort) (left : Outcome) (right : Room → Outcome) → Fits s left → ((room : Room) → Fits t (right room))
      → Fits (given (common_sort s t)) (sides op left right)
  given_fits Whole Whole left right h k =
      rw wholes
      (then-whole Whole left _ h (λ a room.
      then-whole Whole (right room) _ (k room) (λ b after. answered_fits (applied op a b) [] after (applied_answers op a b))))
  given_fits Whole Text left right h k = rw wrongs tt
  given_fits Whole Wrong left right h k = rw wrongs tt
  given_fits Text Whole left right h k = rw wrongs tt
  given_fits Text Text left right h k = then-text (given Text) left _ h (λ a room. texts a room (right room) (k room))
  given_fits Text Wrong left right h k = rw wrongs tt
  given_fits Wrong t left right h k = rw wrongs tt

module _ (op : Operator) where
  -- what wants whole numbers
  whole_fits : (s t : Sort) (left : Outcome) (right : Room → Outcome) → Fits s left → ((room : Room) → Fits t (right room))
      → Fits (whole_only (common_sort s t)) (sides op left right)
  whole_fits = given_fits op whole_only refl refl (λ a room right h. tt)

  -- what takes texts too
  text_fits : (s : Sort) → wants_whole op ≡ false → ((a b : List ℕ) (room : Room) → Fits s (on_texts op a b room))
      → (a : List ℕ) (room : Room) (right : Outcome) → Fits Text right → Fits s (right_of op a room right)
  text_fits s e k a room right h = rw e (then-text s right _ h (k a))

  compared_fits : wants_whole op ≡ false → ((a b : List ℕ) (room : Room) → Fits Whole (on_texts op a b room))
      → (s t : Sort) (left : Outcome) (right : Room → Outcome) → Fits s left → ((room : Room) → Fits t (right room))
      → Fits (compared (common_sort s t)) (sides op left right)
  compared_fits e k = given_fits op compared refl refl (text_fits Whole e k)

said_fits : (t : Bool) (a b : List ℕ) (room : Room) → Fits Whole (answered (say t) (text a ∷ text b ∷ []) room)
said_fits t a b room = answered_fits (say t) (text a ∷ text b ∷ []) room (say_answers t)

produced_fits : (bytes : List ℕ) (operands : List Value) (room : Room) → Fits Text (produced bytes operands room)
unfolding produced
produced_fits bytes operands room =
    by_choice (Fits Text) (ltb longest_string (length bytes)) refl (then-text Text (make bytes room) _ (make_fits bytes room) (λ b after. tt))

pub sides_fit : (op : Operator) (s t : Sort) (left : Outcome) (right : Room → Outcome) → Fits s left → ((room : Room) → Fits t (right room))
    → Fits (joined_sort op s t) (sides op left right)
sides_fit operator.Multiply = whole_fits operator.Multiply
sides_fit operator.Divide = whole_fits operator.Divide
sides_fit operator.Modulo = whole_fits operator.Modulo
sides_fit operator.Add =
    given_fits operator.Add (λ s. s) refl refl
    (text_fits operator.Add Text refl (λ a b room. produced_fits (a ++ b) (text a ∷ text b ∷ []) room))
sides_fit operator.Subtract = whole_fits operator.Subtract
sides_fit operator.Equal = compared_fits operator.Equal refl (λ a b. said_fits (same_bytes a b) a b)
sides_fit operator.Unequal = compared_fits operator.Unequal refl (λ a b. said_fits (not (same_bytes a b)) a b)
sides_fit operator.Less = compared_fits operator.Less refl (λ a b. said_fits (is_before a b) a b)
sides_fit operator.Greater = compared_fits operator.Greater refl (λ a b. said_fits (is_before b a) a b)
sides_fit operator.AtMost = compared_fits operator.AtMost refl (λ a b. said_fits (not (is_before b a)) a b)
sides_fit operator.AtLeast = compared_fits operator.AtLeast refl (λ a b. said_fits (not (is_before a b)) a b)
sides_fit operator.And = whole_fits operator.And
sides_fit operator.Or = whole_fits operator.Or
sides_fit operator.Xor = whole_fits operator.Xor
sides_fit operator.Eqv = whole_fits operator.Eqv
sides_fit operator.Imp = whole_fits operator.Imp

-- ---- functions

-- ranges are tested before the result asks for room
text_ranged : (right : Bool) (bytes : List ℕ) (vs : List Value) (room : Room) → Fits Text (ranged right room (produced bytes vs room))
text_ranged right bytes vs room = by_choice (Fits Text) right (produced_fits bytes vs room) refl

word_ranged : (right : Bool) (w : ℕ) (vs : List Value) (room : Room) → Fits Whole (ranged right room (answered (Ok w) vs room))
word_ranged right w vs room = by_choice (Fits Whole) right tt refl

pub called_fits : (f : Function) (vs : List Value) (room : Room) → Fits (of_kind (gives f)) (called f vs room)
called_fits Len vs room = tt
called_fits Asc vs room = word_ranged (leb 1 (length (bytes vs 0))) _ vs room
called_fits Chr vs room = text_ranged (within 0 (word vs 0)) _ vs room
called_fits Left vs room = text_ranged (within 0 (word vs 1)) _ vs room
called_fits Right vs room = text_ranged (within 0 (word vs 1)) _ vs room
called_fits Mid vs room = text_ranged (within 1 (word vs 1) && within 0 (mid_length vs)) _ vs room
called_fits Space vs room = text_ranged (within 0 (word vs 0)) _ vs room
called_fits String vs room = text_ranged (within 0 (word vs 0) && fill_right (argument vs 1)) _ vs room
called_fits Instr vs room = word_ranged (within 1 (instr_start vs)) _ vs room
called_fits Str vs room = produced_fits (signed_numeral (word vs 0)) vs room
called_fits Hex vs room = produced_fits (hexadecimal (word vs 0)) vs room
called_fits Val vs room = answered_fits (val_of (bytes vs 0)) vs room (val_answers _)
called_fits Abs vs room = answered_fits (magnitude (word vs 0)) vs room (fit_answers _)
called_fits Sgn vs room = tt
called_fits Fre vs room = answered_fits (fit (pos (room.limit - (let_all_go vs room).live))) vs room (fit_answers _)
