-- How many strings a formula needs to make at once, and that working it out has no more, keeps its value, and nothing else.
use mathlib.Core.Path.{◌≡◌, refl, ◌∙◌}
use mathlib.Core.Bool.{true, cond, not, false≢true}
use mathlib.Core.List.{List, [], ◌∷◌, ◌++◌}
use Prim.Native.Nat.{ℕ, zero, suc, ◌+◌, ◌≤◌, max}
use native.Mathlib.Omega.{arith}
use lib.ListN.{length}
use Rattle.whole.specs.Whole.{applied, negated, say}
use Rattle.whole.specs.declared.arithmetic.Operator.{Operator}
use Rattle.whole.specs.declared.arithmetic.Operator.TheVariants.{Multiply, Divide, Modulo, Add, Subtract, Equal, Unequal, Less, Greater, AtMost, AtLeast, And, Or, Xor, Eqv, Imp}
use Rattle.words.specs.Names.{Telling, alike}
use Rattle.words.specs.Spellings.{same_bytes}
use Rattle.words.specs.declared.names.Kind.{Kind}
use Rattle.words.specs.declared.names.Kind.TheVariants as kind
use Rattle.words.specs.declared.symbols.Function.{Function}
use Rattle.words.proofs.Choices.{by_test}
use Rattle.grammar.specs.Trees as tree
use Rattle.grammar.specs.Trees.{Formula, Arguments}
use Rattle.grammar.specs.Functions.{wants}
use Rattle.grammar.specs.Formulas.{count_of}
use Rattle.grammar.specs.declared.wanting.Want.{Want}
use Rattle.grammar.specs.declared.wanting.Want.TheVariants as want
use Rattle.variables.specs.Strings.{Value, whole, text, Room, Outcome, value, fault, then}
use Rattle.strings.specs.Functions.{called}
use Rattle.variables.specs.Variables.{StringVariable, Variables, word_of, bytes_of, string_bytes, set_string}
use Rattle.operators.specs.Values.{whole_then, is_before, on_texts, joined, wants_whole, left_right, sides, Taken, taken, stopped, meets, want_at, tested, further, result, variable_value, value_of, values_of}
use Rattle.promises.specs.Unfinished.{bytes_held, strings_held, all_bytes, all_strings, ByValue, ByValues, LiveIsExact}
use Rattle.promises.proofs.Waiting.Rooms.{Kept, Good, make_good, answered_good, produced_good, called_good}

-- ---- what is needed

-- a left side waits as a string where the operator takes one
abbrev pub left_waits : Operator → ℕ
left_waits op = cond (wants_whole op) 0 1

-- two strings are joined to a third
abbrev pub joins : Operator → ℕ
joins Multiply = 0
joins Divide = 0
joins Modulo = 0
joins Add = 3
joins Subtract = 0
joins Equal = 0
joins Unequal = 0
joins Less = 0
joins Greater = 0
joins AtMost = 0
joins AtLeast = 0
joins And = 0
joins Or = 0
joins Xor = 0
joins Eqv = 0
joins Imp = 0

-- how many of a function's arguments may be strings, up to one of them
abbrev pub maybe_string : Want → ℕ
maybe_string want.Whole = 0
maybe_string want.Text = 1
maybe_string want.Either = 1

unfoldable pub wait_before : List Want → ℕ → ℕ
wait_before ws zero = 0
wait_before ws (suc n) = wait_before ws n + maybe_string (want_at ws n)

-- the most unfinished strings at once while a formula or some arguments are worked out, beside those that were before
unfoldable mutual
  pub needs : Formula → ℕ
  needs (tree.number w) = 0
  needs (tree.variable k v) = 1
  needs (tree.text b) = 1
  needs (tree.inside f) = needs f
  needs (tree.minus f) = needs f
  needs (tree.complement f) = needs f
  needs (tree.two_sided op f g) = max (needs f) (max (left_waits op + needs g) (joins op))
  needs (tree.call f a) = max (needs_of a (wants f (count_of a))) (wait_before (wants f (count_of a)) (count_of a) + 1)

  pub needs_of : Arguments → List Want → ℕ
  needs_of tree.none ws = 0
  needs_of (tree.also a f) ws = max (needs_of a ws) (wait_before ws (count_of a) + needs f)

-- ---- values in a row

all_bytes_lem : (vs : List Value) (v : Value) → all_bytes (vs ++ (v ∷ [])) ≡ all_bytes vs + bytes_held v
unfolding all_bytes
all_bytes_lem [] v = omega arith
all_bytes_lem (x ∷ vs) v = omega (arith, all_bytes_lem vs v)

all_strings_lem : (vs : List Value) (v : Value) → all_strings (vs ++ (v ∷ [])) ≡ all_strings vs + strings_held v
unfolding all_strings
all_strings_lem [] v = omega arith
all_strings_lem (x ∷ vs) v = omega (arith, all_strings_lem vs v)

-- an argument that is wanted as a whole number is no string
met_strings : (w : Want) (v : Value) → meets w v ≡ true → strings_held v ≤ maybe_string w
met_strings want.Whole (whole w) e = omega arith
met_strings want.Whole (text b) e = absurd (false≢true e)
met_strings want.Text (whole w) e = absurd (false≢true e)
met_strings want.Text (text b) e = omega arith
met_strings want.Either (whole w) e = omega arith
met_strings want.Either (text b) e = omega arith

-- nor is a left side where the operator wants one
pub left_strings : (op : Operator) (a : Value) → left_right op a ≡ true → strings_held a ≤ left_waits op
left_strings op (whole w) e = omega arith
left_strings op (text b) e = by_test (wants_whole op) (λ t. absurd (false≢true (rw t at e))) (λ t. rw t (omega arith))

-- ---- with never more than `top` strings at once

module _ (top : ℕ) where
  whole_good : (before : Room) (x : Outcome) (go : ℕ → Room → Outcome) → Good top before x
      → ((w : ℕ) (after : Room) → Kept top before after 0 0 → Good top before (go w after)) → Good top before (whole_then x go)
  whole_good before (value (whole w) after) go h f = f w after h
  whole_good before (value (text b) after) go h f = h.low
  whole_good before (fault e after) go h f = h

  -- two operands, and what they come to
  kept_two : (a b : Value) {before between after : Room} → Kept top before between (bytes_held a) (strings_held a)
      → Kept top between after (bytes_held b) (strings_held b)
      → Kept top before after (all_bytes (a ∷ b ∷ [])) (all_strings (a ∷ b ∷ []))
  unfolding all_bytes all_strings
  kept_two a b h k =
      let g = h.grown in
      let i = k.grown in
      record { grown = record { limit = i.limit ∙ g.limit; live = omega arith; unfinished = omega arith }; low = k.low }

  texts_good : (op : Operator) (a b : List ℕ) {before after : Room} → before.unfinished + joins op ≤ top
      → Kept top before after (all_bytes (text a ∷ text b ∷ [])) (all_strings (text a ∷ text b ∷ [])) → Good top before (on_texts op a b after)
  unfolding all_bytes all_strings
  texts_good Multiply a b u k = k.low
  texts_good Divide a b u k = k.low
  texts_good Modulo a b u k = k.low
  texts_good Add a b u k = produced_good top (text a ∷ text b ∷ []) k (let g = k.grown in omega arith) (a ++ b)
  texts_good Subtract a b u k = k.low
  texts_good Equal a b u k = answered_good top (text a ∷ text b ∷ []) k (say (same_bytes a b))
  texts_good Unequal a b u k = answered_good top (text a ∷ text b ∷ []) k (say (not (same_bytes a b)))
  texts_good Less a b u k = answered_good top (text a ∷ text b ∷ []) k (say (is_before a b))
  texts_good Greater a b u k = answered_good top (text a ∷ text b ∷ []) k (say (is_before b a))
  texts_good AtMost a b u k = answered_good top (text a ∷ text b ∷ []) k (say (not (is_before b a)))
  texts_good AtLeast a b u k = answered_good top (text a ∷ text b ∷ []) k (say (not (is_before a b)))
  texts_good And a b u k = k.low
  texts_good Or a b u k = k.low
  texts_good Xor a b u k = k.low
  texts_good Eqv a b u k = k.low
  texts_good Imp a b u k = k.low

  joined_good : (op : Operator) (a b : Value) {before after : Room} → before.unfinished + joins op ≤ top
      → Kept top before after (all_bytes (a ∷ b ∷ [])) (all_strings (a ∷ b ∷ [])) → Good top before (joined op a b after)
  unfolding all_bytes all_strings
  joined_good op (whole a) (whole b) u k = answered_good top [] k (applied op a b)
  joined_good op (whole a) (text b) u k = k.low
  joined_good op (text a) (whole b) u k = k.low
  joined_good op (text a) (text b) u k = texts_good op a b u k

  right_good : (op : Operator) (a : Value) {before between : Room} (x : Outcome) → before.unfinished + joins op ≤ top
      → Kept top before between (bytes_held a) (strings_held a) → Good top between x
      → Good top before (then x (λ b after. joined op a b after))
  right_good op a (value b after) u h k = joined_good op a b u (kept_two a b h k)
  right_good op a (fault e after) u h k = k

  sides_good : (op : Operator) (before : Room) (left : Outcome) (right : Room → Outcome) → before.unfinished + joins op ≤ top
      → Good top before left
      → ((a : Value) (between : Room) → left_right op a ≡ true → Kept top before between (bytes_held a) (strings_held a)
      → Good top between (right between))
      → Good top before (sides op left right)
  sides_good op before (value a between) right u h go =
      by_test (left_right op a)
      (λ e. rw e (right_good op a (right between) u h (go a between e h)))
      (λ e. rw e h.low)
  sides_good op before (fault e between) right u h go = h

  -- ---- arguments

  -- arguments were worked out, of which at most so many are strings, or a fault was met
  abbrev pub GoodTaken : ℕ → Room → Taken → Type 0
  GoodTaken n before (taken vs after) = Kept top before after (all_bytes vs) (all_strings vs) × (all_strings vs ≤ n)
  GoodTaken n before (stopped e after) = after.highest ≤ top

  tested_good : (w : Want) (n : ℕ) (vs : List Value) {before between : Room} (x : Outcome)
      → Kept top before between (all_bytes vs) (all_strings vs) → all_strings vs ≤ n → Good top between x
      → GoodTaken (n + maybe_string w) before (tested w vs x)
  tested_good w n vs (fault e after) h l k = k
  tested_good w n vs (value v after) h l k =
      let g = h.grown in
      let i = k.grown in
      by_test (meets w v)
      (λ e. rw (e, all_bytes_lem, all_strings_lem) (
        record { grown = record { limit = i.limit ∙ g.limit; live = omega arith; unfinished = omega arith }; low = k.low },
        omega (arith, met_strings w v e),
      ))
      (λ e. rw e k.low)

  further_good : (w : Want) (n : ℕ) (before : Room) (x : Taken) (go : Room → Outcome) → GoodTaken n before x
      → ((vs : List Value) (between : Room) → Kept top before between (all_bytes vs) (all_strings vs) → all_strings vs ≤ n
      → Good top between (go between))
      → GoodTaken (n + maybe_string w) before (further x (λ vs after. tested w vs (go after)))
  further_good w n before (taken vs after) go h k = tested_good w n vs (go after) h.0 h.1 (k vs after h.0 h.1)
  further_good w n before (stopped e after) go h k = h

  result_good : (f : Function) (n : ℕ) (before : Room) (x : Taken) → GoodTaken n before x → before.unfinished + (n + 1) ≤ top
      → Good top before (result x (λ vs after. called f vs after))
  result_good f n before (taken vs after) h u = called_good top vs h.0 (let g = h.0.grown in omega (arith, h.1)) f
  result_good f n before (stopped e after) h u = h

  -- ---- formulas

  none_good : (room : Room) (w : ℕ) → room.highest ≤ top → Good top room (value (whole w) room)
  none_good room w h = record { grown = record { limit = refl; live = omega arith; unfinished = omega arith }; low = h }

  variable_good : (k : Kind) (name : Telling) (vars : Variables) (room : Room) → room.highest ≤ top → room.unfinished + 1 ≤ top
      → Good top room (variable_value k name vars room)
  variable_good kind.Whole name vars room h u = none_good room (word_of vars.numbers name) h
  variable_good kind.Text name vars room h u = make_good top (bytes_of vars.strings name) room h u

  mutual
    unfolding value_of values_of needs needs_of count_of wait_before all_bytes all_strings

    pub value_good : (f : Formula) (vars : Variables) (room : Room) → room.highest ≤ top → room.unfinished + needs f ≤ top
        → Good top room (value_of f vars room)
    value_good (tree.number w) vars room h u = none_good room w h
    value_good (tree.variable k name) vars room h u = variable_good k name vars room h u
    value_good (tree.text b) vars room h u = make_good top b room h u
    value_good (tree.inside f) vars room h u = value_good f vars room h u
    value_good (tree.minus f) vars room h u =
        whole_good room (value_of f vars room) _ (value_good f vars room h u) (λ w after k. answered_good top [] k (negated w))
    value_good (tree.complement f) vars room h u =
        whole_good room (value_of f vars room) _ (value_good f vars room h u) (λ w after k. k)
    value_good (tree.two_sided op f g) vars room h u =
        sides_good op room (value_of f vars room) (λ after. value_of g vars after) (omega arith)
        (value_good f vars room h (omega arith))
        (λ a between e k. value_good g vars between k.low (let i = k.grown in omega (arith, left_strings op a e)))
    value_good (tree.call f a) vars room h u =
        result_good f (wait_before (wants f (count_of a)) (count_of a)) room (values_of a (wants f (count_of a)) vars room)
        (values_good a (wants f (count_of a)) vars room h (omega arith)) (omega arith)

    pub values_good : (a : Arguments) (ws : List Want) (vars : Variables) (room : Room) → room.highest ≤ top
        → room.unfinished + needs_of a ws ≤ top → GoodTaken (wait_before ws (count_of a)) room (values_of a ws vars room)
    values_good tree.none ws vars room h u =
        (record { grown = record { limit = refl; live = omega arith; unfinished = omega arith }; low = h }, omega arith)
    values_good (tree.also a f) ws vars room h u =
        further_good (want_at ws (count_of a)) (wait_before ws (count_of a)) room (values_of a ws vars room) (λ after. value_of f vars after)
        (values_good a ws vars room h (omega arith))
        (λ vs between k l. value_good f vars between k.low (let i = k.grown in omega arith))

-- ---- live bytes are exact

by_value : (top : ℕ) (before : Room) (x : Outcome) → Good top before x → ByValue before x
by_value top before (value v after) h = h.grown
by_value top before (fault e after) h = tt

by_values : (top n : ℕ) (before : Room) (x : Taken) → GoodTaken top n before x → ByValues before x
by_values top n before (taken vs after) h = h.0.grown
by_values top n before (stopped e after) h = tt

assigned_bytes : (vs : List StringVariable) (name : Telling) (b : List ℕ)
    → string_bytes (set_string vs name b) + length (bytes_of vs name) ≡ string_bytes vs + length b
unfolding string_bytes set_string bytes_of
assigned_bytes [] name b = omega arith
assigned_bytes (v ∷ vs) name b =
    by_test (alike v.name name) (λ e. rw e (omega arith)) (λ e. rw e (omega (arith, assigned_bytes vs name b)))

pub live_is_exact : LiveIsExact
live_is_exact = record {
  statements = λ m. (refl, refl);
  formulas = λ f vars before.
      let top = max before.highest (before.unfinished + needs f) in
      by_value top before (value_of f vars before) (value_good top f vars before (omega arith) (omega arith));
  arguments = λ a ws vars before.
      let top = max before.highest (before.unfinished + needs_of a ws) in
      by_values top (wait_before ws (count_of a)) before (values_of a ws vars before) (values_good top a ws vars before (omega arith) (omega arith));
  assignments = assigned_bytes;
}
