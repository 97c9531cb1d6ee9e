-- What a formula gives is a whole number of 16 bits, or a string of at most 255 bytes, where its own numbers and texts and the variables are.
use Rattle.std.specs.Prelude.{Err, Ok, Result, ℕ}
use Rattle.whole.specs.declared.errors.Error.{Error}
use mathlib.Core.Path.{◌≡◌}
use mathlib.Core.Bool.{Bool, true, false, cond, not, ◌&&◌, ◌||◌}
use mathlib.Core.List.{List, [], ◌∷◌, ◌++◌, map}
use Prim.Native.Nat.{ℕ, zero, suc, ◌+◌, ◌-◌, ◌/◌, ◌%◌, ◌≤◌, ◌<◌}
use native.Mathlib.Omega.{arith}
use borrow.Author.Tests.{ltb-false, leb-true}
use lib.Bits.{and_lt, or_lt, xor_lt}
use lib.Dec.{ltb, leb, eqb}
use lib.IntN.{ℤ, pos, negsuc, ◌+ℤ◌, ◌-ℤ◌, ◌*ℤ◌, neg_ℤ, nat_abs}
use lib.Signed.{lt_z, le_z, quot_z, rem_z}
use lib.ListN.{length, take, drop, get_or, replicate, length-drop}
use Rattle.whole.specs.Bytes.{is, blank}
use Rattle.whole.specs.Digits.{leading_value, signed_value, val_of, sign_length, digits_only, number_item}
use Rattle.whole.specs.Texts.{places, trimmed, digit_byte, numeral, sign_byte, signed_numeral, hexadecimal, longest_string}
use Rattle.whole.specs.Whole.{num, word, fit, say, applied, negated, flipped, magnitude, sign_of, signum}
use Rattle.whole.specs.declared.arithmetic.Operator.{Operator}
use Rattle.whole.specs.declared.arithmetic.Operator.TheVariants as operator
use Rattle.whole.specs.declared.errors.Error.TheVariants.{IllegalFunctionCall, DivisionByZero}
use Rattle.words.specs.Names.{Telling, alike}
use Rattle.words.specs.Spellings.{same_bytes}
use Rattle.words.specs.declared.names.Kind.TheVariants as kind
use Rattle.words.specs.declared.symbols.Function.{Function}
use Rattle.words.specs.declared.symbols.Function.TheVariants as function
use Rattle.words.proofs.Choices.{by_test, both}
use Rattle.grammar.specs.Trees as tree
use Rattle.grammar.specs.Trees.{Formula, Arguments}
use Rattle.grammar.specs.Functions.{wants}
use Rattle.grammar.specs.Formulas.{count_of}
use Rattle.grammar.specs.declared.wanting.Want.{Want}
use Rattle.variables.specs.Strings.{Value, whole, text, Room, Outcome, value, fault, then, make, let_all_go, produced}
use Rattle.variables.specs.Variables.{NumberVariable, StringVariable, Variables, word_of, bytes_of, set_number, set_string}
use Rattle.strings.specs.Functions as functions
use Rattle.strings.specs.Functions.{argument, bytes, answered, within, ranged, found, place_of, fill_right, fill_byte, mid_length, instr_start, instr_texts, called}
use Rattle.operators.specs.Values.{whole_then, is_before, on_texts, joined, left_right, sides, Taken, taken, stopped, meets, want_at, tested, further, result, value_of, values_of}
use Rattle.order.proofs.Laws.{Every, every_join}
use Rattle.laws.specs.Laws.{words}

-- ---- proper values

abbrev pub Bytes : List ℕ → Type 0
Bytes s = Every (λ b. b < 256) s

abbrev pub Proper : Value → Type 0
Proper (whole w) = w < words
Proper (text b) = (length b ≤ longest_string) × Bytes b

abbrev pub ProperAnswer : Result ℕ Error → Type 0
ProperAnswer (Ok w) = w < words
ProperAnswer (Err e) = Unit {0}

abbrev pub ProperOutcome : Outcome → Type 0
ProperOutcome (value v room) = Proper v
ProperOutcome (fault e room) = Unit {0}

abbrev pub ProperTaken : Taken → Type 0
ProperTaken (taken vs room) = Every Proper vs
ProperTaken (stopped e room) = Unit {0}

-- ---- numbers

word_proper : (z : ℤ) → lt_z (pos 32767) z ≡ false → word z < words
word_proper (pos n) e = omega (arith, ltb-false 32767 n e)
word_proper (negsuc n) e = omega arith

pub fit_proper : (z : ℤ) → ProperAnswer (fit z)
unfolding fit
fit_proper z =
    by_test (lt_z (pos 32767) z) (λ e. rw e tt)
    (λ e. by_test (lt_z z (negsuc 32767)) (λ f. rw (e, f) tt) (λ f. rw (e, f) (word_proper z e)))

cond_proper : (t : Bool) (a b : Result ℕ Error) → ProperAnswer a → ProperAnswer b → ProperAnswer (cond t a b)
cond_proper true a b h k = h
cond_proper false a b h k = k

say_proper : (t : Bool) → ProperAnswer (say t)
say_proper true = omega arith
say_proper false = omega arith

pub applied_proper : (op : Operator) (a b : ℕ) → a < words → b < words → ProperAnswer (applied op a b)
applied_proper operator.Multiply a b ha hb = fit_proper (num a *ℤ num b)
applied_proper operator.Divide a b ha hb = cond_proper (eqb b 0) (Err DivisionByZero) _ tt (fit_proper (quot_z (num a) (num b)))
applied_proper operator.Modulo a b ha hb = cond_proper (eqb b 0) (Err DivisionByZero) _ tt (fit_proper (rem_z (num a) (num b)))
applied_proper operator.Add a b ha hb = fit_proper (num a +ℤ num b)
applied_proper operator.Subtract a b ha hb = fit_proper (num a -ℤ num b)
applied_proper operator.Equal a b ha hb = say_proper (eqb a b)
applied_proper operator.Unequal a b ha hb = say_proper (not (eqb a b))
applied_proper operator.Less a b ha hb = say_proper (lt_z (num a) (num b))
applied_proper operator.Greater a b ha hb = say_proper (lt_z (num b) (num a))
applied_proper operator.AtMost a b ha hb = say_proper (le_z (num a) (num b))
applied_proper operator.AtLeast a b ha hb = say_proper (le_z (num b) (num a))
applied_proper operator.And a b ha hb = and_lt 16 a b ha hb
applied_proper operator.Or a b ha hb = or_lt 16 a b ha hb
applied_proper operator.Xor a b ha hb = xor_lt 16 a b ha hb
applied_proper operator.Eqv a b ha hb = omega arith
applied_proper operator.Imp a b ha hb = or_lt 16 (flipped a) b (omega arith) hb

signum_proper : (z : ℤ) → word (sign_of z) < words
signum_proper (negsuc n) = omega arith
signum_proper (pos zero) = omega arith
signum_proper (pos (suc n)) = omega arith

val_proper : (s : List ℕ) → ProperAnswer (signed_value s)
unfolding signed_value
val_proper [] = fit_proper (pos 0)
val_proper (b ∷ s) =
    cond_proper (is "-" b) (fit (neg_ℤ (pos (leading_value s)))) _ (fit_proper (neg_ℤ (pos (leading_value s))))
    (cond_proper (is "+" b) (fit (pos (leading_value s))) _ (fit_proper (pos (leading_value s))) (fit_proper (pos (leading_value (b ∷ s)))))

-- an item read as a number
pub item_proper : (s : List ℕ) → ProperAnswer (number_item s)
unfolding number_item
item_proper s = cond_proper (digits_only (drop (sign_length s) s)) (signed_value s) (Err IllegalFunctionCall) (val_proper s) tt

found_within : (p : ℕ) (s y : List ℕ) → found p s y ≤ p + length s
unfolding found
found_within p [] y = omega arith
found_within p (b ∷ s) y =
    by_test (functions.starts_with y (b ∷ s)) (λ e. rw e (omega arith)) (λ e. rw e (omega (arith, found_within (suc p) s y)))

place_proper : (i : ℕ) (x y : List ℕ) → i ≤ 255 → length x ≤ longest_string → place_of i x y < words
unfolding place_of
place_proper i x y h k =
    by_test (eqb (length x) 0 || ltb (length x) i) (λ e. rw e (omega arith)) (λ e. rw e
    (by_test (eqb (length y) 0) (λ f. rw f (omega arith)) (λ f. rw f (omega (arith, found_within i (drop (i - 1) x) y, length-drop (i - 1) x)))))

-- ---- bytes

pub take_bytes : (n : ℕ) (s : List ℕ) → Bytes s → Bytes (take n s)
take_bytes zero s h = tt
take_bytes (suc n) [] h = tt
take_bytes (suc n) (b ∷ s) h = (h.0, take_bytes n s h.1)

pub drop_bytes : (n : ℕ) (s : List ℕ) → Bytes s → Bytes (drop n s)
drop_bytes zero s h = h
drop_bytes (suc n) [] h = tt
drop_bytes (suc n) (b ∷ s) h = drop_bytes n s h.1

same_bytes_lem : (n b : ℕ) → b < 256 → Bytes (replicate n b)
same_bytes_lem zero b h = tt
same_bytes_lem (suc n) b h = (h, same_bytes_lem n b h)

first_byte : (s : List ℕ) → Bytes s → get_or s 0 0 < 256
first_byte [] h = omega arith
first_byte (b ∷ s) h = h.0

-- a numeral's bytes are digits and capitals
digit_byte_lem : (d : ℕ) → d < 16 → digit_byte d < 256
unfolding digit_byte
digit_byte_lem d h = by_test (ltb d 10) (λ e. rw e (omega arith)) (λ e. rw e (omega arith))

places_small : (base k n : ℕ) → ((m : ℕ) → m % base < 16) → Every (λ d. d < 16) (places base k n)
unfolding places
places_small base zero n h = tt
places_small base (suc k) n h = every_join (λ d. d < 16) (places base k (n / base)) (n % base ∷ []) (places_small base k (n / base) h) (h n, tt)

trimmed_small : (ds : List ℕ) → Every (λ d. d < 16) ds → Every (λ d. d < 16) (trimmed ds)
unfolding trimmed
trimmed_small [] h = tt
trimmed_small (d ∷ []) h = h
trimmed_small (zero ∷ d ∷ ds) h = trimmed_small (d ∷ ds) h.1
trimmed_small (suc n ∷ d ∷ ds) h = h

digit_bytes : (ds : List ℕ) → Every (λ d. d < 16) ds → Bytes (map digit_byte ds)
digit_bytes [] h = tt
digit_bytes (d ∷ ds) h = (digit_byte_lem d h.0, digit_bytes ds h.1)

numeral_bytes : (base k n : ℕ) → ((m : ℕ) → m % base < 16) → Bytes (numeral base k n)
unfolding numeral
numeral_bytes base k n h = digit_bytes (trimmed (places base k n)) (trimmed_small (places base k n) (places_small base k n h))

sign_byte_lem : (z : ℤ) → sign_byte z < 256
sign_byte_lem (pos n) = omega arith
sign_byte_lem (negsuc n) = omega arith

signed_bytes : (w : ℕ) → Bytes (signed_numeral w)
unfolding signed_numeral
signed_bytes w = (sign_byte_lem (num w), numeral_bytes 10 5 (nat_abs (num w)) (λ m. omega arith))

-- byte by byte
pub each_byte : (s : List ℕ) → ((i : ℕ) → i < length s → get_or s i 0 < 256) → Bytes s
each_byte [] h = tt
each_byte (b ∷ s) h = (h 0 (omega arith), each_byte s (λ i k. h (suc i) (omega arith)))

-- ---- what is made

pub make_proper : (b : List ℕ) (room : Room) → length b ≤ longest_string → Bytes b → ProperOutcome (make b room)
unfolding make
make_proper b room h k = by_test (ltb room.limit (room.live + length b)) (λ e. rw e tt) (λ e. rw e (h, k))

answered_proper : (a : Result ℕ Error) (vs : List Value) (room : Room) → ProperAnswer a → ProperOutcome (answered a vs room)
answered_proper (Ok w) vs room h = h
answered_proper (Err e) vs room h = tt

freed_proper : (o : Outcome) (vs : List Value) → ProperOutcome o → ProperOutcome (then o (λ v after. value v (let_all_go vs after)))
freed_proper (value v room) vs h = h
freed_proper (fault e room) vs h = tt

produced_proper : (b : List ℕ) (vs : List Value) (room : Room) → Bytes b → ProperOutcome (produced b vs room)
unfolding produced
produced_proper b vs room k =
    by_test (ltb longest_string (length b)) (λ e. rw e tt)
    (λ e. rw e (freed_proper (make b room) vs (make_proper b room (ltb-false longest_string (length b) e) k)))

-- ---- functions

argument_proper : (vs : List Value) (n : ℕ) → Every Proper vs → Proper (argument vs n)
unfolding argument
argument_proper [] n h = omega arith
argument_proper (v ∷ vs) zero h = h.0
argument_proper (v ∷ vs) (suc n) h = argument_proper vs n h.1

bytes_in : (v : Value) → Proper v → (length (functions.bytes_in v) ≤ longest_string) × Bytes (functions.bytes_in v)
bytes_in (whole w) h = (omega arith, tt)
bytes_in (text b) h = h

word_in : (v : Value) → Proper v → functions.word_in v < words
word_in (whole w) h = h
word_in (text b) h = omega arith

fill_byte_lem : (v : Value) → fill_right v ≡ true → Proper v → fill_byte v < 256
fill_byte_lem (whole w) e h = let t = both (leb 0 w) (leb w 255) e in omega (arith, leb-true w 255 t.1)
fill_byte_lem (text []) e h = omega arith
fill_byte_lem (text (b ∷ s)) e h = h.1.0

module _ (vs : List Value) (room : Room) (h : Every Proper vs) where
  bytes_at : (n : ℕ) → Bytes (bytes vs n)
  bytes_at n = (bytes_in (argument vs n) (argument_proper vs n h)).1

  short_at : (n : ℕ) → length (bytes vs n) ≤ longest_string
  short_at n = (bytes_in (argument vs n) (argument_proper vs n h)).0

  ranged_proper : (t : Bool) (o : Outcome) → (t ≡ true → ProperOutcome o) → ProperOutcome (ranged t room o)
  ranged_proper t o k = by_test t (λ e. rw e (k e)) (λ e. rw e tt)

  called_proper : (f : Function) → ProperOutcome (called f vs room)
  called_proper function.Len = answered_proper (Ok (length (bytes vs 0))) vs room (omega (arith, short_at 0))
  called_proper function.Asc =
      ranged_proper (leb 1 (length (bytes vs 0))) _ (λ e.
      answered_proper (Ok (get_or (bytes vs 0) 0 0)) vs room (omega (arith, first_byte (bytes vs 0) (bytes_at 0))))
  called_proper function.Chr =
      ranged_proper (within 0 (functions.word vs 0)) _ (λ e.
      let t = both (leb 0 (functions.word vs 0)) (leb (functions.word vs 0) 255) e in
      produced_proper (functions.word vs 0 ∷ []) vs room (omega (arith, leb-true (functions.word vs 0) 255 t.1), tt))
  called_proper function.Left =
      ranged_proper (within 0 (functions.word vs 1)) _ (λ e.
      produced_proper (take (functions.word vs 1) (bytes vs 0)) vs room (take_bytes (functions.word vs 1) (bytes vs 0) (bytes_at 0)))
  called_proper function.Right =
      ranged_proper (within 0 (functions.word vs 1)) _ (λ e.
      produced_proper (drop (length (bytes vs 0) - functions.word vs 1) (bytes vs 0)) vs room (drop_bytes (length (bytes vs 0) - functions.word vs 1) (bytes vs 0) (bytes_at 0)))
  called_proper function.Mid =
      let from = drop (functions.word vs 1 - 1) (bytes vs 0) in
      ranged_proper (within 1 (functions.word vs 1) && within 0 (mid_length vs)) _ (λ e.
      produced_proper (take (mid_length vs) from) vs room (take_bytes (mid_length vs) from (drop_bytes (functions.word vs 1 - 1) (bytes vs 0) (bytes_at 0))))
  called_proper function.Space =
      ranged_proper (within 0 (functions.word vs 0)) _ (λ e.
      produced_proper (replicate (functions.word vs 0) blank) vs room (same_bytes_lem (functions.word vs 0) blank (omega arith)))
  called_proper function.String =
      let fill = argument vs 1 in
      ranged_proper (within 0 (functions.word vs 0) && fill_right fill) _ (λ e.
      let t = both (within 0 (functions.word vs 0)) (fill_right fill) e in
      produced_proper (replicate (functions.word vs 0) (fill_byte fill)) vs room
      (same_bytes_lem (functions.word vs 0) (fill_byte fill) (fill_byte_lem fill t.1 (argument_proper vs 1 h))))
  called_proper function.Instr =
      let i = instr_start vs in
      let n = instr_texts vs in
      ranged_proper (within 1 i) _ (λ e.
      let t = both (leb 1 i) (leb i 255) e in
      answered_proper (Ok (place_of i (bytes vs n) (bytes vs (suc n)))) vs room
      (place_proper i (bytes vs n) (bytes vs (suc n)) (leb-true i 255 t.1) (short_at n)))
  called_proper function.Str = produced_proper (signed_numeral (functions.word vs 0)) vs room (signed_bytes (functions.word vs 0))
  called_proper function.Hex = produced_proper (hexadecimal (functions.word vs 0)) vs room (numeral_bytes 16 4 (functions.word vs 0) (λ m. omega arith))
  called_proper function.Val = answered_proper (val_of (bytes vs 0)) vs room (val_proper _)
  called_proper function.Abs = answered_proper (magnitude (functions.word vs 0)) vs room (fit_proper (pos (nat_abs (num (functions.word vs 0)))))
  called_proper function.Sgn = answered_proper (Ok (signum (functions.word vs 0))) vs room (signum_proper (num (functions.word vs 0)))
  called_proper function.Fre = answered_proper (fit (pos (room.limit - (let_all_go vs room).live))) vs room (fit_proper (pos (room.limit - (let_all_go vs room).live)))

-- ---- operators

texts_proper : (op : Operator) (a b : List ℕ) (room : Room) → Bytes a → Bytes b → ProperOutcome (on_texts op a b room)
texts_proper operator.Multiply a b room ha hb = tt
texts_proper operator.Divide a b room ha hb = tt
texts_proper operator.Modulo a b room ha hb = tt
texts_proper operator.Add a b room ha hb = produced_proper (a ++ b) (text a ∷ text b ∷ []) room (every_join (λ x. x < 256) a b ha hb)
texts_proper operator.Subtract a b room ha hb = tt
texts_proper operator.Equal a b room ha hb = answered_proper (say (same_bytes a b)) (text a ∷ text b ∷ []) room (say_proper (same_bytes a b))
texts_proper operator.Unequal a b room ha hb = answered_proper (say (not (same_bytes a b))) (text a ∷ text b ∷ []) room (say_proper (not (same_bytes a b)))
texts_proper operator.Less a b room ha hb = answered_proper (say (is_before a b)) (text a ∷ text b ∷ []) room (say_proper (is_before a b))
texts_proper operator.Greater a b room ha hb = answered_proper (say (is_before b a)) (text a ∷ text b ∷ []) room (say_proper (is_before b a))
texts_proper operator.AtMost a b room ha hb = answered_proper (say (not (is_before b a))) (text a ∷ text b ∷ []) room (say_proper (not (is_before b a)))
texts_proper operator.AtLeast a b room ha hb = answered_proper (say (not (is_before a b))) (text a ∷ text b ∷ []) room (say_proper (not (is_before a b)))
texts_proper operator.And a b room ha hb = tt
texts_proper operator.Or a b room ha hb = tt
texts_proper operator.Xor a b room ha hb = tt
texts_proper operator.Eqv a b room ha hb = tt
texts_proper operator.Imp a b room ha hb = tt

joined_proper : (op : Operator) (a b : Value) (room : Room) → Proper a → Proper b → ProperOutcome (joined op a b room)
joined_proper op (whole a) (whole b) room ha hb = answered_proper (applied op a b) [] room (applied_proper op a b ha hb)
joined_proper op (whole a) (text b) room ha hb = tt
joined_proper op (text a) (whole b) room ha hb = tt
joined_proper op (text a) (text b) room ha hb = texts_proper op a b room ha.1 hb.1

-- ---- one thing after another

then_proper : (o : Outcome) (go : Value → Room → Outcome) → ProperOutcome o → ((v : Value) (room : Room) → Proper v → ProperOutcome (go v room))
    → ProperOutcome (then o go)
then_proper (value v room) go h k = k v room h
then_proper (fault e room) go h k = tt

whole_proper : (o : Outcome) (go : ℕ → Room → Outcome) → ProperOutcome o → ((w : ℕ) (room : Room) → w < words → ProperOutcome (go w room))
    → ProperOutcome (whole_then o go)
whole_proper (value (whole w) room) go h k = k w room h
whole_proper (value (text b) room) go h k = tt
whole_proper (fault e room) go h k = tt

sides_proper : (op : Operator) (left : Outcome) (right : Room → Outcome) → ProperOutcome left → ((room : Room) → ProperOutcome (right room))
    → ProperOutcome (sides op left right)
sides_proper op left right h k =
    then_proper left _ h (λ a room ha. by_test (left_right op a)
    (λ e. rw e (then_proper (right room) _ (k room) (λ b after hb. joined_proper op a b after ha hb)))
    (λ e. rw e tt))

tested_proper : (w : Want) (vs : List Value) (o : Outcome) → Every Proper vs → ProperOutcome o → ProperTaken (tested w vs o)
tested_proper w vs (value v room) h k =
    by_test (meets w v) (λ e. rw e (every_join Proper vs (v ∷ []) h (k, tt))) (λ e. rw e tt)
tested_proper w vs (fault e room) h k = tt

further_proper : (t : Taken) (go : List Value → Room → Taken) → ProperTaken t
    → ((vs : List Value) (room : Room) → Every Proper vs → ProperTaken (go vs room)) → ProperTaken (further t go)
further_proper (taken vs room) go h k = k vs room h
further_proper (stopped e room) go h k = tt

result_proper : (t : Taken) (f : Function) → ProperTaken t → ProperOutcome (result t (λ vs after. called f vs after))
result_proper (taken vs room) f h = called_proper vs room h f
result_proper (stopped e room) f h = tt

-- ---- variables

pub record ProperVariables (vars : Variables) : Type 0 where
  pub numbers : Every (λ v. v.word < words) vars.numbers
  pub strings : Every (λ v. Proper (text v.bytes)) vars.strings

number_proper : (vs : List NumberVariable) (name : Telling) → Every (λ v. v.word < words) vs → word_of vs name < words
unfolding word_of
number_proper [] name h = omega arith
number_proper (v ∷ vs) name h = by_test (alike v.name name) (λ e. rw e h.0) (λ e. rw e (number_proper vs name h.1))

string_proper : (vs : List StringVariable) (name : Telling) → Every (λ v. Proper (text v.bytes)) vs → Proper (text (bytes_of vs name))
unfolding bytes_of
string_proper [] name h = (omega arith, tt)
string_proper (v ∷ vs) name h = by_test (alike v.name name) (λ e. rw e h.0) (λ e. rw e (string_proper vs name h.1))

pub set_number_lem : (vs : List NumberVariable) (name : Telling) (w : ℕ) → w < words → Every (λ v. v.word < words) vs
    → Every (λ v. v.word < words) (set_number vs name w)
unfolding set_number
set_number_lem [] name w h k = (h, tt)
set_number_lem (v ∷ vs) name w h k = by_test (alike v.name name) (λ e. rw e (h, k.1)) (λ e. rw e (k.0, set_number_lem vs name w h k.1))

pub set_string_lem : (vs : List StringVariable) (name : Telling) (b : List ℕ) → Proper (text b) → Every (λ v. Proper (text v.bytes)) vs
    → Every (λ v. Proper (text v.bytes)) (set_string vs name b)
unfolding set_string
set_string_lem [] name b h k = (h, tt)
set_string_lem (v ∷ vs) name b h k = by_test (alike v.name name) (λ e. rw e (h, k.1)) (λ e. rw e (k.0, set_string_lem vs name b h k.1))

-- ---- formulas

unfoldable mutual
  -- its own numbers and texts are proper
  pub ProperFormula : Formula → Type 0
  ProperFormula (tree.number w) = w < words
  ProperFormula (tree.variable k name) = Unit {0}
  ProperFormula (tree.text b) = Proper (text b)
  ProperFormula (tree.inside f) = ProperFormula f
  ProperFormula (tree.minus f) = ProperFormula f
  ProperFormula (tree.complement f) = ProperFormula f
  ProperFormula (tree.two_sided op f g) = ProperFormula f × ProperFormula g
  ProperFormula (tree.call f a) = ProperArguments a

  pub ProperArguments : Arguments → Type 0
  ProperArguments tree.none = Unit {0}
  ProperArguments (tree.also a f) = ProperArguments a × ProperFormula f

module _ (vars : Variables) (p : ProperVariables vars) where
  mutual
    unfolding value_of ProperFormula

    pub value_proper : (f : Formula) (room : Room) → ProperFormula f → ProperOutcome (value_of f vars room)
    value_proper (tree.number w) room h = h
    value_proper (tree.variable kind.Whole name) room h = number_proper vars.numbers name p.numbers
    value_proper (tree.variable kind.Text name) room h =
        let k = string_proper vars.strings name p.strings in make_proper (bytes_of vars.strings name) room k.0 k.1
    value_proper (tree.text b) room h = make_proper b room h.0 h.1
    value_proper (tree.inside f) room h = value_proper f room h
    value_proper (tree.minus f) room h =
        whole_proper (value_of f vars room) _ (value_proper f room h) (λ w after k. answered_proper (negated w) [] after (fit_proper (neg_ℤ (num w))))
    value_proper (tree.complement f) room h = whole_proper (value_of f vars room) _ (value_proper f room h) (λ w after k. omega arith)
    value_proper (tree.two_sided op f g) room h =
        sides_proper op (value_of f vars room) (λ after. value_of g vars after) (value_proper f room h.0) (λ after. value_proper g after h.1)
    value_proper (tree.call f a) room h = result_proper (values_of a (wants f (count_of a)) vars room) f (values_proper a (wants f (count_of a)) room h)

    pub values_proper : (a : Arguments) (ws : List Want) (room : Room) → ProperArguments a → ProperTaken (values_of a ws vars room)
    values_proper tree.none ws room h = tt
    values_proper (tree.also a f) ws room h =
        further_proper (values_of a ws vars room) _ (values_proper a ws room h.0)
        (λ vs after k. tested_proper (want_at ws (count_of a)) vs (value_of f vars after) k (value_proper f after h.1))
