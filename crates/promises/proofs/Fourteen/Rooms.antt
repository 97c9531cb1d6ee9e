-- The room of the string space: what an operator or a function does with it, and that a text that was made lies in it.
use Rattle.std.specs.Prelude.{Err, Ok, Result, ℕ}
use Rattle.whole.specs.declared.errors.Error.{Error}
use mathlib.Core.Path.{◌≡◌, refl}
use mathlib.Core.Bool.{Bool, true, false, cond, not, ◌&&◌}
use mathlib.Core.List.{List, [], ◌∷◌, ◌++◌}
use Prim.Native.Nat.{ℕ, suc, ◌+◌, ◌-◌, ◌≤◌}
use native.Mathlib.Omega.{arith}
use borrow.Author.Tests.{ltb-false}
use lib.Dec.{ltb, leb, eqb}
use lib.IntN.{ℤ, pos, negsuc, ◌+ℤ◌, ◌-ℤ◌, ◌*ℤ◌, neg_ℤ, nat_abs}
use lib.Signed.{lt_z, le_z, quot_z, rem_z}
use lib.ListN.{length, take, drop, get_or, replicate}
use Rattle.whole.specs.Bytes.{is, blank}
use Rattle.whole.specs.Digits.{leading_value, signed_value, val_of, sign_length, digits_only, number_item}
use Rattle.whole.specs.Texts.{signed_numeral, hexadecimal, longest_string}
use Rattle.whole.specs.Whole.{num, fit, unless_zero, say, applied, negated, magnitude, signum}
use Rattle.whole.specs.declared.arithmetic.Operator.{Operator}
use Rattle.whole.specs.declared.arithmetic.Operator.TheVariants as operator
use Rattle.whole.specs.declared.errors.Error.TheVariants.{IllegalFunctionCall, DivisionByZero, TypeMismatch, OutOfStringSpace}
use Rattle.words.specs.Spellings.{same_bytes}
use Rattle.words.specs.declared.names.Kind.TheVariants as kind
use Rattle.words.specs.declared.symbols.Function.{Function}
use Rattle.words.specs.declared.symbols.Function.TheVariants as function
use Rattle.words.proofs.Choices.{by_test}
use Rattle.grammar.specs.Trees as tree
use Rattle.grammar.specs.Trees.{Formula}
use Rattle.grammar.specs.Functions.{wants}
use Rattle.grammar.specs.Formulas.{count_of}
use Rattle.variables.specs.Strings.{Value, whole, text, Room, Outcome, value, fault, then, make, let_go, let_all_go, produced}
use Rattle.variables.specs.Variables.{Variables, bytes_of}
use Rattle.strings.specs.Functions.{argument, word, bytes, answered, within, place_of, fill_right, fill_byte, mid_length, instr_start, instr_texts, called}
use Rattle.operators.specs.Values.{whole_then, is_before, on_texts, joined, left_right, sides, Taken, taken, stopped, result, value_of, values_of}
use Rattle.promises.specs.StringSpace.{Produces}
use Rattle.whole.proofs.Never.{never}

-- ---- an answer of the arithmetic is never 14

abbrev pub Spares : Result ℕ Error → Type 0
Spares (Ok w) = Unit {0}
Spares (Err e) = e ≡ OutOfStringSpace → ⊥

fit_spares : (z : ℤ) → Spares (fit z)
unfolding fit
fit_spares z =
    by_test (lt_z (pos 32767) z) (λ e. rw e (λ x. never (cc)))
    (λ e. by_test (lt_z z (negsuc 32767)) (λ f. rw (e, f) (λ x. never (cc))) (λ f. rw (e, f) tt))

-- any test, and two answers
cond_spares : (t : Bool) (a b : Result ℕ Error) → Spares a → Spares b → Spares (cond t a b)
cond_spares true a b h k = h
cond_spares false a b h k = k

zero_spares : (b : ℕ) (a : Result ℕ Error) → Spares a → Spares (unless_zero b a)
zero_spares b a h = cond_spares (eqb b 0) (Err DivisionByZero) a (λ x. never (cc)) h

pub say_spares : (t : Bool) → Spares (say t)
say_spares true = tt
say_spares false = tt

pub negated_spares : (a : ℕ) → Spares (negated a)
negated_spares a = fit_spares (neg_ℤ (num a))

pub applied_spares : (op : Operator) (a b : ℕ) → Spares (applied op a b)
applied_spares operator.Multiply a b = fit_spares (num a *ℤ num b)
applied_spares operator.Divide a b = zero_spares b (fit (quot_z (num a) (num b))) (fit_spares (quot_z (num a) (num b)))
applied_spares operator.Modulo a b = zero_spares b (fit (rem_z (num a) (num b))) (fit_spares (rem_z (num a) (num b)))
applied_spares operator.Add a b = fit_spares (num a +ℤ num b)
applied_spares operator.Subtract a b = fit_spares (num a -ℤ num b)
applied_spares operator.Equal a b = say_spares (eqb a b)
applied_spares operator.Unequal a b = say_spares (not (eqb a b))
applied_spares operator.Less a b = say_spares (lt_z (num a) (num b))
applied_spares operator.Greater a b = say_spares (lt_z (num b) (num a))
applied_spares operator.AtMost a b = say_spares (le_z (num a) (num b))
applied_spares operator.AtLeast a b = say_spares (le_z (num b) (num a))
applied_spares operator.And a b = tt
applied_spares operator.Or a b = tt
applied_spares operator.Xor a b = tt
applied_spares operator.Eqv a b = tt
applied_spares operator.Imp a b = tt

signed_spares : (s : List ℕ) → Spares (signed_value s)
unfolding signed_value
signed_spares [] = fit_spares (pos 0)
signed_spares (b ∷ s) =
    cond_spares (is "-" b) (fit (neg_ℤ (pos (leading_value s)))) _ (fit_spares (neg_ℤ (pos (leading_value s))))
    (cond_spares (is "+" b) (fit (pos (leading_value s))) _ (fit_spares (pos (leading_value s))) (fit_spares (pos (leading_value (b ∷ s)))))

pub number_spares : (s : List ℕ) → Spares (number_item s)
unfolding number_item
number_spares s =
    cond_spares (digits_only (drop (sign_length s) s)) (signed_value s) (Err IllegalFunctionCall) (signed_spares s) (λ x. never (cc))

-- ---- a function of some arguments: its result is a text, in any room; or it is no text; or an argument is out of range

-- a whole number or its error, and never 14
pub record Answers (f : Function) (vs : List Value) (room : Room) : Type 0 where
  pub answer : Result ℕ Error
  pub spares : Spares answer
  pub is : called f vs room ≡ answered answer vs room

pub data CallView (f : Function) (vs : List Value) : Type 0 where
  makes : (b : List ℕ) → Produces f vs b → CallView f vs
  answers : ((room : Room) → Answers f vs room) → CallView f vs
  refuses : ((room : Room) → called f vs room ≡ fault IllegalFunctionCall room) → CallView f vs

module _ (vs : List Value) where
  -- a whole number, where the arguments are in range
  whole_view : (f : Function) (w : ℕ) → ((room : Room) → called f vs room ≡ answered (Ok w) vs room) → CallView f vs
  whole_view f w e = answers (λ room. record { answer = Ok w; spares = tt; is = e room })

  answer_view : (f : Function) (a : Result ℕ Error) → Spares a → ((room : Room) → called f vs room ≡ answered a vs room) → CallView f vs
  answer_view f a h e = answers (λ room. record { answer = a; spares = h; is = e room })

  pub call_view : (f : Function) → CallView f vs
  call_view function.Len = whole_view _ (length (bytes vs 0)) (λ room. refl)
  call_view function.Asc =
      by_test (leb 1 (length (bytes vs 0))) (λ e. whole_view _ (get_or (bytes vs 0) 0 0) (λ room. rw e)) (λ e. refuses (λ room. rw e))
  call_view function.Chr = by_test (within 0 (word vs 0)) (λ e. makes (word vs 0 ∷ []) (λ room. rw e)) (λ e. refuses (λ room. rw e))
  call_view function.Left =
      by_test (within 0 (word vs 1)) (λ e. makes (take (word vs 1) (bytes vs 0)) (λ room. rw e)) (λ e. refuses (λ room. rw e))
  call_view function.Right =
      by_test (within 0 (word vs 1)) (λ e. makes (drop (length (bytes vs 0) - word vs 1) (bytes vs 0)) (λ room. rw e))
      (λ e. refuses (λ room. rw e))
  call_view function.Mid =
      by_test (within 1 (word vs 1) && within 0 (mid_length vs))
      (λ e. makes (take (mid_length vs) (drop (word vs 1 - 1) (bytes vs 0))) (λ room. rw e)) (λ e. refuses (λ room. rw e))
  call_view function.Space =
      by_test (within 0 (word vs 0)) (λ e. makes (replicate (word vs 0) blank) (λ room. rw e)) (λ e. refuses (λ room. rw e))
  call_view function.String =
      by_test (within 0 (word vs 0) && fill_right (argument vs 1))
      (λ e. makes (replicate (word vs 0) (fill_byte (argument vs 1))) (λ room. rw e)) (λ e. refuses (λ room. rw e))
  call_view function.Instr =
      by_test (within 1 (instr_start vs))
      (λ e. whole_view _ (place_of (instr_start vs) (bytes vs (instr_texts vs)) (bytes vs (suc (instr_texts vs)))) (λ room. rw e))
      (λ e. refuses (λ room. rw e))
  call_view function.Str = makes (signed_numeral (word vs 0)) (λ room. refl)
  call_view function.Hex = makes (hexadecimal (word vs 0)) (λ room. refl)
  call_view function.Val = answer_view _ (val_of (bytes vs 0)) (signed_spares _) (λ room. refl)
  call_view function.Abs = answer_view _ (magnitude (word vs 0)) (fit_spares (pos (nat_abs (num (word vs 0))))) (λ room. refl)
  call_view function.Sgn = whole_view _ (signum (word vs 0)) (λ room. refl)
  call_view function.Fre =
      answers (λ room. record {
        answer = fit (pos (room.limit - (let_all_go vs room).live));
        spares = fit_spares (pos (room.limit - (let_all_go vs room).live));
        is = refl;
      })

-- ---- an operator on two texts: `+` joins them, a comparison tells, and all else is 13

pub data TextsView (op : Operator) (a b : List ℕ) : Type 0 where
  joins : op ≡ operator.Add → TextsView op a b
  tells : (t : Bool) → ((room : Room) → on_texts op a b room ≡ answered (say t) (text a ∷ text b ∷ []) room) → TextsView op a b
  wrong : ((room : Room) → on_texts op a b room ≡ fault TypeMismatch room) → TextsView op a b

pub texts_view : (op : Operator) (a b : List ℕ) → TextsView op a b
texts_view operator.Multiply a b = wrong (λ room. refl)
texts_view operator.Divide a b = wrong (λ room. refl)
texts_view operator.Modulo a b = wrong (λ room. refl)
texts_view operator.Add a b = joins refl
texts_view operator.Subtract a b = wrong (λ room. refl)
texts_view operator.Equal a b = tells (same_bytes a b) (λ room. refl)
texts_view operator.Unequal a b = tells (not (same_bytes a b)) (λ room. refl)
texts_view operator.Less a b = tells (is_before a b) (λ room. refl)
texts_view operator.Greater a b = tells (is_before b a) (λ room. refl)
texts_view operator.AtMost a b = tells (not (is_before b a)) (λ room. refl)
texts_view operator.AtLeast a b = tells (not (is_before a b)) (λ room. refl)
texts_view operator.And a b = wrong (λ room. refl)
texts_view operator.Or a b = wrong (λ room. refl)
texts_view operator.Xor a b = wrong (λ room. refl)
texts_view operator.Eqv a b = wrong (λ room. refl)
texts_view operator.Imp a b = wrong (λ room. refl)

-- ---- letting go frees room

let_go_less : (v : Value) (room : Room) → (let_go v room).live ≤ room.live
unfolding let_go
let_go_less (whole w) room = omega arith
let_go_less (text b) room = omega arith

let_go_limit : (v : Value) (room : Room) → (let_go v room).limit ≡ room.limit
unfolding let_go
let_go_limit (whole w) room = refl
let_go_limit (text b) room = refl

all_go_less : (vs : List Value) (room : Room) → (let_all_go vs room).live ≤ room.live
unfolding let_all_go
all_go_less [] room = omega arith
all_go_less (v ∷ vs) room = omega (arith, all_go_less vs (let_go v room), let_go_less v room)

all_go_limit : (vs : List Value) (room : Room) → (let_all_go vs room).limit ≡ room.limit
unfolding let_all_go
all_go_limit [] room = refl
all_go_limit (v ∷ vs) room = omega (arith, all_go_limit vs (let_go v room), let_go_limit v room)

-- ---- a text that was made lies in the space, with all that is live then

abbrev pub TextFits : Outcome → Type 0
TextFits (value (whole w) room) = Unit {0}
TextFits (value (text b) room) = room.live ≤ room.limit
TextFits (fault e room) = Unit {0}

pub make_fits : (b : List ℕ) (room : Room) → TextFits (make b room)
unfolding make
make_fits b room = by_test (ltb room.limit (room.live + length b)) (λ e. rw e tt) (λ e. rw e (ltb-false _ _ e))

let_go_fits : (vs : List Value) (o : Outcome) → TextFits o → TextFits (then o (λ v after. value v (let_all_go vs after)))
let_go_fits vs (value (whole w) room) h = tt
let_go_fits vs (value (text b) room) h = omega (arith, all_go_less vs room, all_go_limit vs room)
let_go_fits vs (fault e room) h = tt

produced_fits : (b : List ℕ) (vs : List Value) (room : Room) → TextFits (produced b vs room)
unfolding produced
produced_fits b vs room = by_test (ltb longest_string (length b)) (λ e. rw e tt) (λ e. rw e (let_go_fits vs (make b room) (make_fits b room)))

answered_fits : (a : Result ℕ Error) (vs : List Value) (room : Room) → TextFits (answered a vs room)
answered_fits (Ok w) vs room = tt
answered_fits (Err e) vs room = tt

called_fits : (f : Function) (vs : List Value) (room : Room) → CallView f vs → TextFits (called f vs room)
called_fits f vs room (makes b e) = rw (e room) (produced_fits b vs room)
called_fits f vs room (answers e) = rw (e room).is (answered_fits (e room).answer vs room)
called_fits f vs room (refuses e) = rw (e room) tt

texts_fit : (op : Operator) (a b : List ℕ) (room : Room) → TextsView op a b → TextFits (on_texts op a b room)
texts_fit op a b room (joins e) = rw e (produced_fits (a ++ b) (text a ∷ text b ∷ []) room)
texts_fit op a b room (tells t e) = rw (e room) (answered_fits (say t) (text a ∷ text b ∷ []) room)
texts_fit op a b room (wrong e) = rw (e room) tt

joined_fits : (op : Operator) (a b : Value) (room : Room) → TextFits (joined op a b room)
joined_fits op (whole a) (whole b) room = answered_fits (applied op a b) [] room
joined_fits op (whole a) (text b) room = tt
joined_fits op (text a) (whole b) room = tt
joined_fits op (text a) (text b) room = texts_fit op a b room (texts_view op a b)

then_fits : (o : Outcome) (go : Value → Room → Outcome) → ((v : Value) (room : Room) → TextFits (go v room)) → TextFits (then o go)
then_fits (value v room) go h = h v room
then_fits (fault e room) go h = tt

sides_fit : (op : Operator) (left : Outcome) (right : Room → Outcome) → TextFits (sides op left right)
sides_fit op left right = then_fits left _ (λ a room. with_left a room (left_right op a))
  where
    with_left : (a : Value) (room : Room) (t : Bool)
        → TextFits (cond t (then (right room) (λ b after. joined op a b after)) (fault TypeMismatch room))
    with_left a room true = then_fits (right room) _ (λ b after. joined_fits op a b after)
    with_left a room false = tt

whole_fits : (o : Outcome) (go : ℕ → Room → Outcome) → ((w : ℕ) (room : Room) → TextFits (go w room)) → TextFits (whole_then o go)
whole_fits (value (whole w) room) go h = h w room
whole_fits (value (text b) room) go h = tt
whole_fits (fault e room) go h = tt

result_fits : (f : Function) (t : Taken) → TextFits (result t (λ vs after. called f vs after))
result_fits f (taken vs room) = called_fits f vs room (call_view vs f)
result_fits f (stopped e room) = tt

pub text_fits : (f : Formula) (vars : Variables) (room : Room) → TextFits (value_of f vars room)
unfolding value_of
text_fits (tree.number w) vars room = tt
text_fits (tree.variable kind.Whole name) vars room = tt
text_fits (tree.variable kind.Text name) vars room = make_fits (bytes_of vars.strings name) room
text_fits (tree.text b) vars room = make_fits b room
text_fits (tree.inside f) vars room = text_fits f vars room
text_fits (tree.minus f) vars room = whole_fits (value_of f vars room) _ (λ w after. answered_fits (negated w) [] after)
text_fits (tree.complement f) vars room = whole_fits (value_of f vars room) _ (λ w after. tt)
text_fits (tree.two_sided op f g) vars room = sides_fit op (value_of f vars room) (λ after. value_of g vars after)
text_fits (tree.call f a) vars room = result_fits f (values_of a (wants f (count_of a)) vars room)
