-- What an operator makes of both sides, over the space, agrees with the outcome that the definition gives: whole numbers, comparisons, and
-- texts side by side.
use Rattle.std.specs.Prelude.{Err, Ok, Result, ℕ}
use Rattle.whole.specs.declared.errors.Error.{Error}
use mathlib.Core.Path.{◌≡◌, refl, sym, ap, ◌∙◌}
use mathlib.Core.Bool.{Bool, true, false, cond, not, false≢true}
use mathlib.Core.List.{List, [], ◌∷◌, ◌++◌}
use Prim.Native.Nat.{ℕ, ◌+◌, ◌≤◌}
use native.Mathlib.Omega.{arith}
use denote.Enum.Declared.{tag_of}
use lib.Dec.{ltb}
use lib.ListN.{length, take, drop, length-append}
use lib.Seq.{take-add, drop-drop}
use types.Run.{OneOf, miss}
use Rattle.whole.specs.Whole.{say}
use Rattle.whole.specs.declared.arithmetic.Operator.{Operator}
use Rattle.whole.specs.declared.arithmetic.Operator.TheVariants as operator
use Rattle.words.proofs.Choices.{by_test}
use Rattle.words.specs.Spellings.{same_bytes}
use Rattle.words.specs.declared.symbols.Scanned.{Scanned}
use Rattle.variables.specs.Strings.{Value, Room, Outcome, whole, text, value, fault, then, make, let_go, let_all_go, produced}
use Rattle.strings.specs.Functions.{answered}
use Rattle.operators.specs.Values.{is_before, on_texts, wants_whole, joined, sides}
use Rattle.variables.specs.bridge.Memory.{Agrees, Held, GoesOn, answered_as, text_length}
use Rattle.operators.specs.bridge.Memory.{RightMet, SidesMet, takes_left, joined_length, order_of, holds_in}
use Rattle.std.specs.declared.cmp.Ordering.{Ordering}
use Rattle.std.specs.Ordering.{is_lt, is_eq, is_gt}
use Rattle.variables.proofs.Lookups.{part_kept}
use Rattle.variables.proofs.Bytewise.{part_length}
use Rattle.operators.proofs.Orders.{less_told, same_told, greater_told}
use Rattle.variables.specs.declared.values.Worked.{Worked}
use Rattle.variables.specs.declared.values.Worked.TheVariants as worked
use Rattle.whole.specs.declared.errors.Error.TheVariants.{StringTooLong, OutOfStringSpace, TypeMismatch}
use Rattle.whole.specs.Texts.{longest_string}

-- an answer agrees with what is made of any room that holds, and goes on
abbrev pub Gives : Result Worked Error → Scanned → List ℕ → ℕ → ℕ → (Room → Outcome) → Type 0
Gives r t space used live outcome = ((room : Room) → Held room space live → Agrees r space used (outcome room)) × GoesOn r t

-- a whole number or its error, of whole numbers
pub answer_gives : (x : Result ℕ Error) (t : Scanned) (space : List ℕ) (used : ℕ) → Gives (answered_as x t) t space used used (answered x [])
unfolding let_all_go
answer_gives (Ok w) t space used = (λ room h. (refl, h), refl)
answer_gives (Err e) t space used = (λ room h. refl, tt)

-- ---- operators by their tags

abbrev pub operator_tag : Operator → ℕ
operator_tag op = tag_of Rattle.whole.specs.contracts.arithmetic.Operator.the_type op

-- all but `+`
abbrev pub not_add : List ℕ
not_add = 0 ∷ 1 ∷ 2 ∷ 4 ∷ 5 ∷ 6 ∷ 7 ∷ 8 ∷ 9 ∷ 10 ∷ 11 ∷ 12 ∷ 13 ∷ 14 ∷ 15 ∷ []

-- all but `+` and the comparisons, and those with `+`
abbrev not_on_texts : List ℕ
not_on_texts = 0 ∷ 1 ∷ 2 ∷ 4 ∷ 11 ∷ 12 ∷ 13 ∷ 14 ∷ 15 ∷ []

abbrev not_comparing : List ℕ
not_comparing = 0 ∷ 1 ∷ 2 ∷ 3 ∷ 4 ∷ 11 ∷ 12 ∷ 13 ∷ 14 ∷ 15 ∷ []

pub wanted_whole : (op : Operator) → OneOf not_on_texts (operator_tag op) → wants_whole op ≡ true
wanted_whole operator.Multiply h = refl
wanted_whole operator.Divide h = refl
wanted_whole operator.Modulo h = refl
wanted_whole operator.Add h = absurd (miss not_on_texts 3 tt h)
wanted_whole operator.Subtract h = refl
wanted_whole operator.Equal h = absurd (miss not_on_texts 5 tt h)
wanted_whole operator.Unequal h = absurd (miss not_on_texts 6 tt h)
wanted_whole operator.Less h = absurd (miss not_on_texts 7 tt h)
wanted_whole operator.Greater h = absurd (miss not_on_texts 8 tt h)
wanted_whole operator.AtMost h = absurd (miss not_on_texts 9 tt h)
wanted_whole operator.AtLeast h = absurd (miss not_on_texts 10 tt h)
wanted_whole operator.And h = refl
wanted_whole operator.Or h = refl
wanted_whole operator.Xor h = refl
wanted_whole operator.Eqv h = refl
wanted_whole operator.Imp h = refl

pub holds_not : (op : Operator) (o : Ordering) → OneOf not_comparing (operator_tag op) → holds_in op o ≡ false
holds_not operator.Multiply o h = refl
holds_not operator.Divide o h = refl
holds_not operator.Modulo o h = refl
holds_not operator.Add o h = refl
holds_not operator.Subtract o h = refl
holds_not operator.Equal o h = absurd (miss not_comparing 5 tt h)
holds_not operator.Unequal o h = absurd (miss not_comparing 6 tt h)
holds_not operator.Less o h = absurd (miss not_comparing 7 tt h)
holds_not operator.Greater o h = absurd (miss not_comparing 8 tt h)
holds_not operator.AtMost o h = absurd (miss not_comparing 9 tt h)
holds_not operator.AtLeast o h = absurd (miss not_comparing 10 tt h)
holds_not operator.And o h = refl
holds_not operator.Or o h = refl
holds_not operator.Xor o h = refl
holds_not operator.Eqv o h = refl
holds_not operator.Imp o h = refl

-- ---- two texts

module _ (space : List ℕ) (used : ℕ) (a b : List ℕ) (t : Scanned) where
  -- their comparison, which lets them go
  pub said_gives : (x : Bool) → Gives (answered_as (say x) t) t space used (used + length a + length b) (answered (say x) (text a ∷ text b ∷ []))
  unfolding let_all_go let_go
  said_gives true = (λ room h. (refl, record { limit = h.limit; lives = omega (arith, h.lives) }), refl)
  said_gives false = (λ room h. (refl, record { limit = h.limit; lives = omega (arith, h.lives) }), refl)

  goes_on : (x y : Bool) → GoesOn (cond x (Err StringTooLong) (cond y (Err OutOfStringSpace) (Ok (worked.Text (length a + length b) t)))) t
  goes_on true y = tt
  goes_on false true = tt
  goes_on false false = refl

  -- their join, where they stand side by side
  module _ (e : take (length a + length b) (drop used space) ≡ a ++ b) where
    join_agrees : (room : Room) → Held room space (used + length a + length b)
        → Agrees (joined_length (length space) used (length a) (length b) t) space used (produced (a ++ b) (text a ∷ text b ∷ []) room)
    unfolding produced make let_all_go let_go
    join_agrees room h =
        let l = length-append a b in
        let n : room.live + (length a + length b) ≡ used + (length a + length b) + (length a + length b) = omega (arith, h.lives) in
        rw (l, h.limit, n)
        (by_test (ltb longest_string (length a + length b))
        (λ long. rw long refl)
        (λ short. rw short
        (by_test (ltb (length space) (used + (length a + length b) + (length a + length b)))
        (λ none. rw none refl)
        (λ some. rw some (e, (sym l, record { limit = refl; lives = omega (arith, h.lives) }))))))

    pub join_gives : Gives (joined_length (length space) used (length a) (length b) t) t space used (used + length a + length b)
        (produced (a ++ b) (text a ∷ text b ∷ []))
    join_gives = (join_agrees, goes_on (ltb longest_string (length a + length b)) (ltb (length space) (used + (length a + length b) + (length a + length b))))

-- ---- two texts that stand side by side in the space

module _ (space : List ℕ) (used m n : ℕ) where
  abbrev A : List ℕ
  A = take m (drop used space)

  abbrev B : List ℕ
  B = take n (drop (used + m) space)

  module _ {o : Ordering} {x : Bool} (e : o ≡ order_of A B) where
    -- what their order says
    pub beside_less : x ≡ is_lt o → x ≡ is_before A B
    beside_less f = f ∙ ap is_lt e ∙ less_told A B

    pub beside_same : x ≡ is_eq o → x ≡ same_bytes A B
    beside_same f = f ∙ ap is_eq e ∙ same_told A B

    pub beside_greater : x ≡ is_gt o → x ≡ is_before B A
    beside_greater f = f ∙ ap is_gt e ∙ greater_told A B

  module _ (h : used + m + n ≤ length space) (t : Scanned) where
    length-A : length A ≡ m
    length-A = part_length space used m (omega arith)

    length-B : length B ≡ n
    length-B = part_length space (used + m) n (omega arith)

    -- what is said of them
    pub beside_said : {r : Result Worked Error} {answer : Result ℕ Error} {x y : Bool} → r ≡ answered_as answer t → answer ≡ say x → x ≡ y
        → Gives r t space used (used + m + n) (answered (say y) (text A ∷ text B ∷ []))
    beside_said {y = y} e f g = rw (e, f, g) (rw (length-A, length-B) at (said_gives space used A B t y))

    -- and of a comparison, which is any operator that wants no whole numbers but `+`
    pub beside_compared : (op : Operator) → wants_whole op ≡ false → OneOf not_add (operator_tag op) → {r : Result Worked Error} {answer : Result ℕ Error} {x : Bool} {o : Ordering}
        → r ≡ answered_as answer t → answer ≡ say x → x ≡ holds_in op o → o ≡ order_of A B → Gives r t space used (used + m + n) (on_texts op A B)
    beside_compared operator.Multiply w l e f g k = absurd (false≢true (sym w))
    beside_compared operator.Divide w l e f g k = absurd (false≢true (sym w))
    beside_compared operator.Modulo w l e f g k = absurd (false≢true (sym w))
    beside_compared operator.Add w l e f g k = absurd (miss not_add 3 tt l)
    beside_compared operator.Subtract w l e f g k = absurd (false≢true (sym w))
    beside_compared operator.Equal w l e f g k = beside_said e f (beside_same k g)
    beside_compared operator.Unequal w l e f g k = beside_said e f (g ∙ ap not (beside_same k refl))
    beside_compared operator.Less w l e f g k = beside_said e f (beside_less k g)
    beside_compared operator.Greater w l e f g k = beside_said e f (beside_greater k g)
    beside_compared operator.AtMost w l e f g k = beside_said e f (g ∙ ap not (beside_greater k refl))
    beside_compared operator.AtLeast w l e f g k = beside_said e f (g ∙ ap not (beside_less k refl))
    beside_compared operator.And w l e f g k = absurd (false≢true (sym w))
    beside_compared operator.Or w l e f g k = absurd (false≢true (sym w))
    beside_compared operator.Xor w l e f g k = absurd (false≢true (sym w))
    beside_compared operator.Eqv w l e f g k = absurd (false≢true (sym w))
    beside_compared operator.Imp w l e f g k = absurd (false≢true (sym w))

    -- they are joined already
    side_by_side : take (length A + length B) (drop used space) ≡ A ++ B
    side_by_side = rw (length-A, length-B) (take-add m n (drop used space) ∙ rw (drop-drop m used space))

    pub beside_joined : Gives (joined_length (length space) used m n t) t space used (used + m + n) (produced (A ++ B) (text A ∷ text B ∷ []))
    beside_joined = rw (length-A, length-B) at (join_gives space used A B t side_by_side)

-- no other operator takes texts
pub texts_refused : (op : Operator) (a b : List ℕ) (t : Scanned) (space : List ℕ) (used live : ℕ) → wants_whole op ≡ true
    → Gives (Err TypeMismatch) t space used live (on_texts op a b)
texts_refused operator.Multiply a b t space used live w = (λ room h. refl, tt)
texts_refused operator.Divide a b t space used live w = (λ room h. refl, tt)
texts_refused operator.Modulo a b t space used live w = (λ room h. refl, tt)
texts_refused operator.Add a b t space used live w = absurd (false≢true w)
texts_refused operator.Subtract a b t space used live w = (λ room h. refl, tt)
texts_refused operator.Equal a b t space used live w = absurd (false≢true w)
texts_refused operator.Unequal a b t space used live w = absurd (false≢true w)
texts_refused operator.Less a b t space used live w = absurd (false≢true w)
texts_refused operator.Greater a b t space used live w = absurd (false≢true w)
texts_refused operator.AtMost a b t space used live w = absurd (false≢true w)
texts_refused operator.AtLeast a b t space used live w = absurd (false≢true w)
texts_refused operator.And a b t space used live w = (λ room h. refl, tt)
texts_refused operator.Or a b t space used live w = (λ room h. refl, tt)
texts_refused operator.Xor a b t space used live w = (λ room h. refl, tt)
texts_refused operator.Eqv a b t space used live w = (λ room h. refl, tt)
texts_refused operator.Imp a b t space used live w = (λ room h. refl, tt)

-- ---- both sides of an operator

-- a left side's answer is of a type that the operator takes, or an error
abbrev pub takes_answer : Operator → Result Worked Error → Bool
takes_answer op (Ok left) = takes_left op left
takes_answer op (Err e) = true

-- the left side is of a type that the operator does not take
pub sides_refused : (op : Operator) (left : Result Worked Error) (space : List ℕ) (used : ℕ) (o : Outcome) (right : Room → Outcome) → Agrees left space used o
    → takes_answer op left ≡ false → Agrees (Err TypeMismatch) space used (sides op o right)
sides_refused op (Ok (worked.Text n t)) space used (value (text b) room) right h e = rw e refl
sides_refused op (Ok (worked.Whole w t)) space used o right h e = absurd (false≢true (sym e))
sides_refused op (Err x) space used o right h e = absurd (false≢true (sym e))
sides_refused op (Ok (worked.Text n t)) space used (value (whole _) room) right h e = elim h [ ]
sides_refused op (Ok (worked.Text n t)) space used (fault _ _) right h e = elim h [ ]

-- the right side's answer after a left value
right_agrees : (op : Operator) (a : Value) (next : ℕ) (right r : Result Worked Error) (space : List ℕ) (used : ℕ) (o : Outcome)
    → Agrees right space next o → RightMet op a next right space used r → Agrees r space used (then o (λ b after. joined op a b after))
right_agrees op a next (Ok (worked.Whole b t)) r space used (value (whole v) room) (f, h) m = rw f at (m.0 room h)
right_agrees op a next (Ok (worked.Text n t)) r space used (value (text b) room) (f, (g, h)) m = rw f at (m.0 room h)
right_agrees op a next (Err e) r space used (fault f room) h m = rw m h
right_agrees op a next (Ok (worked.Whole b t)) r space used (value (text _) room) h m = elim h [ ]
right_agrees op a next (Ok (worked.Whole b t)) r space used (fault f room) h m = elim h [ ]
right_agrees op a next (Ok (worked.Text n t)) r space used (value (whole v) room) h m = elim h [ ]
right_agrees op a next (Ok (worked.Text n t)) r space used (fault f room) h m = elim h [ ]
right_agrees op a next (Err e) r space used (value _ room) h m = elim h [ ]

-- both answers: the left one over the space s, the right one over s', where the left one's text is kept
pub sides_agree : (op : Operator) (left right r : Result Worked Error) (s s' : List ℕ) (used : ℕ) (o : Outcome) (go : Room → Outcome)
    → Agrees left s used o → takes_answer op left ≡ true → length s' ≡ length s → take (used + text_length left) s' ≡ take (used + text_length left) s
    → ((room : Room) → Held room s (used + text_length left) → Agrees right s' (used + text_length left) (go room))
    → SidesMet op left right s' used r → Agrees r s' used (sides op o go)
sides_agree op (Ok (worked.Whole w t)) right r s s' used (value (whole v) room) go (f, h) y l k rights m =
    let z : used + 0 ≡ used = omega arith in
    rw f at (right_agrees op (whole w) used right r s' used (go room) (rw z at (rights room (rw z h))) m)
sides_agree op (Ok (worked.Text n t)) right r s s' used (value (text b) room) go (f, (g, h)) y l k rights m =
    let e : take n (drop used s') ≡ b = part_kept s s' used n k ∙ f in
    rw y (rw e at (right_agrees op (text (take n (drop used s'))) (used + n) right r s' used (go room) (rights room h) m))
sides_agree op (Err e) right r s s' used (fault f room) go h y l k rights m = rw m h
sides_agree op (Ok (worked.Whole w t)) right r s s' used (value (text b) room) go h y l k rights m = elim h [ ]
sides_agree op (Ok (worked.Whole w t)) right r s s' used (fault f room) go h y l k rights m = elim h [ ]
sides_agree op (Ok (worked.Text n t)) right r s s' used (value (whole v) room) go h y l k rights m = elim h [ ]
sides_agree op (Ok (worked.Text n t)) right r s s' used (fault f room) go h y l k rights m = elim h [ ]
sides_agree op (Err e) right r s s' used (value _ room) go h y l k rights m = elim h [ ]
