-- What a formula comes to. Operands are worked out left first, and each operand's type is tested as soon as it is worked out: a
-- minus sign, NOT, and every operator but `+` and the comparisons want whole numbers; `+` and comparisons want the right side to be
-- of the left's type. Arguments are tested likewise, one by one, before the next is begun.
use Rattle.std.specs.Prelude.{Bool, true, false, cond, not, List, [], ◌∷◌, ◌++◌, ℕ, zero, suc, ltb, eqb}
use Rattle.whole.specs.Whole.{applied, negated, flipped, say}
use Rattle.whole.specs.declared.arithmetic.Operator.{Operator}
use Rattle.whole.specs.declared.arithmetic.Operator.TheVariants.{
  Multiply,
  Divide,
  Modulo,
  Add,
  Subtract,
  Equal,
  Unequal,
  Less,
  Greater,
  AtMost,
  AtLeast,
  And,
  Or,
  Xor,
  Eqv,
  Imp,
}
use Rattle.whole.specs.declared.errors.Error.{Error}
use Rattle.whole.specs.declared.errors.Error.TheVariants.{TypeMismatch}
use Rattle.words.specs.Spellings.{same_bytes}
use Rattle.words.specs.declared.names.Kind.{Kind}
use Rattle.words.specs.declared.names.Kind.TheVariants as kind
use Rattle.words.specs.Names.{Telling}
use Rattle.grammar.specs.Trees as tree
use Rattle.grammar.specs.Trees.{Formula, Arguments}
use Rattle.grammar.specs.Functions.{wants}
use Rattle.grammar.specs.Formulas.{count_of}
use Rattle.grammar.specs.declared.wanting.Want.{Want}
use Rattle.grammar.specs.declared.wanting.Want.TheVariants as want
use Rattle.variables.specs.Strings.{Value, whole, text, Room, Outcome, value, fault, then, make, produced}
use Rattle.variables.specs.Variables.{Variables, word_of, bytes_of}
use Rattle.strings.specs.Functions.{answered, called}

-- ---- types

-- a whole number, and what to do with it; a text is 13
abbrev pub whole_then : Outcome → (ℕ → Room → Outcome) → Outcome
whole_then (value (whole w) room) go = go w room
whole_then (value (text b) room) go = fault TypeMismatch room
whole_then (fault e room) go = fault e room

-- ---- operators on whole numbers and on texts

-- strings compare by bytes, and a proper prefix is less
unfoldable pub is_before : List ℕ → List ℕ → Bool
is_before a [] = false
is_before [] (c ∷ b) = true
is_before (x ∷ a) (c ∷ b) = cond (ltb x c) true (cond (eqb x c) (is_before a b) false)

-- two texts; what is neither `+` nor a comparison does not come here
abbrev pub on_texts : Operator → List ℕ → List ℕ → Room → Outcome
on_texts Multiply a b room = fault TypeMismatch room
on_texts Divide a b room = fault TypeMismatch room
on_texts Modulo a b room = fault TypeMismatch room
on_texts Add a b room = produced (a ++ b) (text a ∷ text b ∷ []) room
on_texts Subtract a b room = fault TypeMismatch room
on_texts Equal a b room = answered (say (same_bytes a b)) (text a ∷ text b ∷ []) room
on_texts Unequal a b room = answered (say (not (same_bytes a b))) (text a ∷ text b ∷ []) room
on_texts Less a b room = answered (say (is_before a b)) (text a ∷ text b ∷ []) room
on_texts Greater a b room = answered (say (is_before b a)) (text a ∷ text b ∷ []) room
on_texts AtMost a b room = answered (say (not (is_before b a))) (text a ∷ text b ∷ []) room
on_texts AtLeast a b room = answered (say (not (is_before a b))) (text a ∷ text b ∷ []) room
on_texts And a b room = fault TypeMismatch room
on_texts Or a b room = fault TypeMismatch room
on_texts Xor a b room = fault TypeMismatch room
on_texts Eqv a b room = fault TypeMismatch room
on_texts Imp a b room = fault TypeMismatch room

-- both sides are there: of one type, or 13
abbrev pub joined : Operator → Value → Value → Room → Outcome
joined op (whole a) (whole b) room = answered (applied op a b) [] room
joined op (whole a) (text b) room = fault TypeMismatch room
joined op (text a) (whole b) room = fault TypeMismatch room
joined op (text a) (text b) room = on_texts op a b room

-- the left side is there: where whole numbers are wanted, a text is 13 before the right side is begun
abbrev pub wants_whole : Operator → Bool
wants_whole Multiply = true
wants_whole Divide = true
wants_whole Modulo = true
wants_whole Add = false
wants_whole Subtract = true
wants_whole Equal = false
wants_whole Unequal = false
wants_whole Less = false
wants_whole Greater = false
wants_whole AtMost = false
wants_whole AtLeast = false
wants_whole And = true
wants_whole Or = true
wants_whole Xor = true
wants_whole Eqv = true
wants_whole Imp = true

abbrev pub left_right : Operator → Value → Bool
left_right op (whole a) = true
left_right op (text a) = not (wants_whole op)

abbrev pub sides : Operator → Outcome → (Room → Outcome) → Outcome
sides op left right =
    then left (λ a room. cond (left_right op a) (then (right room) (λ b after. joined op a b after)) (fault TypeMismatch room))

-- ---- arguments

pub data Taken : Type 0 where
  taken : List Value → Room → Taken
  stopped : Error → Room → Taken

abbrev pub meets : Want → Value → Bool
meets want.Whole (whole w) = true
meets want.Whole (text b) = false
meets want.Text (whole w) = false
meets want.Text (text b) = true
meets want.Either v = true

-- what is wanted at a place, from 0
unfoldable pub want_at : List Want → ℕ → Want
want_at [] n = want.Either
want_at (w ∷ ws) zero = w
want_at (w ∷ ws) (suc n) = want_at ws n

abbrev pub tested : Want → List Value → Outcome → Taken
tested w before (value v room) = cond (meets w v) (taken (before ++ (v ∷ [])) room) (stopped TypeMismatch room)
tested w before (fault e room) = stopped e room

abbrev pub further : Taken → (List Value → Room → Taken) → Taken
further (taken vs room) go = go vs room
further (stopped e room) go = stopped e room

abbrev pub result : Taken → (List Value → Room → Outcome) → Outcome
result (taken vs room) go = go vs room
result (stopped e room) go = fault e room

-- ---- formulas

-- each variable read makes an unfinished string of its length
abbrev pub variable_value : Kind → Telling → Variables → Room → Outcome
variable_value kind.Whole name vars room = value (whole (word_of vars.numbers name)) room
variable_value kind.Text name vars room = make (bytes_of vars.strings name) room

unfoldable mutual
  pub value_of : Formula → Variables → Room → Outcome
  value_of (tree.number w) vars room = value (whole w) room
  value_of (tree.variable k name) vars room = variable_value k name vars room
  value_of (tree.text b) vars room = make b room
  value_of (tree.inside f) vars room = value_of f vars room
  value_of (tree.minus f) vars room = whole_then (value_of f vars room) (λ w after. answered (negated w) [] after)
  value_of (tree.complement f) vars room = whole_then (value_of f vars room) (λ w after. value (whole (flipped w)) after)
  value_of (tree.two_sided op f g) vars room = sides op (value_of f vars room) (λ after. value_of g vars after)
  value_of (tree.call f a) vars room =
      result (values_of a (wants f (count_of a)) vars room) (λ vs after. called f vs after)

  pub values_of : Arguments → List Want → Variables → Room → Taken
  values_of tree.none ws vars room = taken [] room
  values_of (tree.also a f) ws vars room =
      further (values_of a ws vars room) (λ vs after. tested (want_at ws (count_of a)) vs (value_of f vars after))
