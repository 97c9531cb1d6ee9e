-- The most unfinished strings that there ever were never become fewer.
use Rattle.std.specs.Prelude.{Err, Ok, Result, ℕ}
use Rattle.whole.specs.declared.errors.Error.{Error}
use mathlib.Core.Path.{◌≡◌, refl}
use mathlib.Core.List.{List, [], ◌∷◌, ◌++◌}
use Prim.Native.Nat.{ℕ, ◌+◌, ◌≤◌}
use native.Mathlib.Omega.{arith}
use lib.Dec.{ltb}
use lib.ListN.{length}
use Rattle.whole.specs.Texts.{longest_string}
use Rattle.whole.specs.Whole.{applied, negated, flipped, say}
use Rattle.whole.specs.declared.arithmetic.Operator.{Operator}
use Rattle.words.specs.declared.names.Kind.{Kind}
use Rattle.words.specs.declared.names.Kind.TheVariants as kind
use Rattle.words.specs.Names.{Telling}
use Rattle.words.specs.declared.symbols.Function.{Function}
use Rattle.words.proofs.Choices.{by_test}
use Rattle.grammar.specs.Trees as tree
use Rattle.grammar.specs.Trees.{Formula, Arguments}
use Rattle.grammar.specs.Functions.{wants}
use Rattle.grammar.specs.Formulas.{count_of}
use Rattle.grammar.specs.declared.wanting.Want.{Want}
use Rattle.variables.specs.Strings.{Value, whole, text, Room, Outcome, value, fault, then, make, produced}
use Rattle.variables.specs.Variables.{Variables, bytes_of}
use Rattle.strings.specs.Functions.{answered, called}
use Rattle.operators.specs.Values.{whole_then, on_texts, joined, left_right, sides, Taken, taken, stopped, meets, want_at, tested, further, result, variable_value, value_of, values_of}
use Rattle.promises.proofs.Waiting.Rooms.{let_go_highest}
use Rattle.promises.proofs.Fourteen.Rooms as rooms
use Rattle.promises.proofs.Fourteen.Rooms.{CallView, call_view, TextsView, texts_view}

-- the most that there ever were, whatever came of working out
abbrev pub highest_of : Outcome → ℕ
highest_of (value v room) = room.highest
highest_of (fault e room) = room.highest

abbrev pub highest_in : Taken → ℕ
highest_in (taken vs room) = room.highest
highest_in (stopped e room) = room.highest

-- ---- what is made of operands

pub make_rises : (b : List ℕ) (room : Room) → room.highest ≤ highest_of (make b room)
unfolding make
make_rises b room = by_test (ltb room.limit (room.live + length b)) (λ e. rw e (omega arith)) (λ e. rw e (omega arith))

pub produced_rises : (b : List ℕ) (vs : List Value) (room : Room) → room.highest ≤ highest_of (produced b vs room)
unfolding produced make
produced_rises b vs room =
    by_test (ltb longest_string (length b)) (λ e. rw e (omega arith)) λ e. rw e
    (by_test (ltb room.limit (room.live + length b)) (λ f. rw f (omega arith)) (λ f. rw f (rw let_go_highest (omega arith))))

pub answered_same : (a : Result ℕ Error) (vs : List Value) (room : Room) → highest_of (answered a vs room) ≡ room.highest
answered_same (Ok w) vs room = let_go_highest vs room
answered_same (Err e) vs room = omega arith

called_rises : (f : Function) (vs : List Value) (room : Room) → CallView f vs → room.highest ≤ highest_of (called f vs room)
called_rises f vs room (rooms.makes b p) = rw (p room) (produced_rises b vs room)
called_rises f vs room (rooms.answers p) = rw (p room).is (let e = answered_same (p room).answer vs room in omega arith)
called_rises f vs room (rooms.refuses p) = rw (p room) (omega arith)

texts_rise : (op : Operator) (a b : List ℕ) (room : Room) → TextsView op a b → room.highest ≤ highest_of (on_texts op a b room)
texts_rise op a b room (rooms.joins o) = rw o (produced_rises (a ++ b) (text a ∷ text b ∷ []) room)
texts_rise op a b room (rooms.tells t v) = rw (v room) (let e = answered_same (say t) (text a ∷ text b ∷ []) room in omega arith)
texts_rise op a b room (rooms.wrong v) = rw (v room) (omega arith)

pub joined_rises : (op : Operator) (a b : Value) (room : Room) → room.highest ≤ highest_of (joined op a b room)
joined_rises op (whole a) (whole b) room = let e = answered_same (applied op a b) [] room in omega arith
joined_rises op (whole a) (text b) room = omega arith
joined_rises op (text a) (whole b) room = omega arith
joined_rises op (text a) (text b) room = texts_rise op a b room (texts_view op a b)

-- ---- one after another

pub whole_same : (o : Outcome) (go : ℕ → Room → Outcome) → ((w : ℕ) (r : Room) → highest_of (go w r) ≡ r.highest)
    → highest_of (whole_then o go) ≡ highest_of o
whole_same (value (whole w) r) go h = h w r
whole_same (value (text b) r) go h = omega arith
whole_same (fault e r) go h = omega arith

pub then_higher : (o : Outcome) (go : Value → Room → Outcome) → ((v : Value) (r : Room) → r.highest ≤ highest_of (go v r))
    → highest_of o ≤ highest_of (then o go)
then_higher (value v r) go h = h v r
then_higher (fault e r) go h = omega arith

pub sides_higher : (op : Operator) (o : Outcome) (right : Room → Outcome) → ((r : Room) → r.highest ≤ highest_of (right r))
    → highest_of o ≤ highest_of (sides op o right)
sides_higher op (value a r) right h =
    by_test (left_right op a)
    (λ e. rw e (let k = then_higher (right r) (λ b after. joined op a b after) (λ b after. joined_rises op a b after) in omega (arith, h r, k)))
    (λ e. rw e (omega arith))
sides_higher op (fault e r) right h = omega arith

pub tested_same : (w : Want) (before : List Value) (o : Outcome) → highest_in (tested w before o) ≡ highest_of o
tested_same w before (value v r) = by_test (meets w v) (λ e. rw e (omega arith)) (λ e. rw e (omega arith))
tested_same w before (fault e r) = omega arith

pub further_higher : (t : Taken) (go : List Value → Room → Taken) → ((vs : List Value) (r : Room) → r.highest ≤ highest_in (go vs r))
    → highest_in t ≤ highest_in (further t go)
further_higher (taken vs r) go h = h vs r
further_higher (stopped e r) go h = omega arith

pub result_higher : (t : Taken) (f : Function) → highest_in t ≤ highest_of (result t (λ vs after. called f vs after))
result_higher (taken vs r) f = called_rises f vs r (call_view vs f)
result_higher (stopped e r) f = omega arith

-- ---- formulas

variable_rises : (k : Kind) (name : Telling) (vars : Variables) (room : Room) → room.highest ≤ highest_of (variable_value k name vars room)
variable_rises kind.Whole name vars room = omega arith
variable_rises kind.Text name vars room = make_rises (bytes_of vars.strings name) room

mutual
  unfolding value_of values_of

  pub value_rises : (f : Formula) (vars : Variables) (room : Room) → room.highest ≤ highest_of (value_of f vars room)
  value_rises (tree.number w) vars room = omega arith
  value_rises (tree.variable k name) vars room = variable_rises k name vars room
  value_rises (tree.text b) vars room = make_rises b room
  value_rises (tree.inside f) vars room = value_rises f vars room
  value_rises (tree.minus f) vars room =
      let e = whole_same (value_of f vars room) (λ w after. answered (negated w) [] after) (λ w r. answered_same (negated w) [] r) in
      omega (arith, e, value_rises f vars room)
  value_rises (tree.complement f) vars room =
      let e = whole_same (value_of f vars room) (λ w after. value (whole (flipped w)) after) (λ w r. refl) in omega (arith, e, value_rises f vars room)
  value_rises (tree.two_sided op f g) vars room =
      let h = sides_higher op (value_of f vars room) (λ after. value_of g vars after) (λ r. value_rises g vars r) in
      omega (arith, h, value_rises f vars room)
  value_rises (tree.call f a) vars room =
      let h = result_higher (values_of a (wants f (count_of a)) vars room) f in
      omega (arith, h, values_rise a (wants f (count_of a)) vars room)

  pub values_rise : (a : Arguments) (ws : List Want) (vars : Variables) (room : Room) → room.highest ≤ highest_in (values_of a ws vars room)
  values_rise tree.none ws vars room = omega arith
  values_rise (tree.also a f) ws vars room =
      let h = further_higher (values_of a ws vars room) (λ vs after. tested (want_at ws (count_of a)) vs (value_of f vars after))
      (λ vs r. let e = tested_same (want_at ws (count_of a)) vs (value_of f vars r) in omega (arith, e, value_rises f vars r)) in
      omega (arith, h, values_rise a ws vars room)
