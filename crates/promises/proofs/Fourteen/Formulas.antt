-- A formula ends in 14 exactly when it asks for more than the space holds besides what is live.
use Rattle.std.specs.Prelude.{Err, Ok, Result, ℕ}
use Rattle.whole.specs.declared.errors.Error.{Error}
use mathlib.Core.Path.{◌≡◌, refl, sym, ◌∙◌}
use mathlib.Core.Bool.{true}
use mathlib.Core.List.{List, [], ◌∷◌, ◌++◌}
use Prim.Native.Nat.{ℕ, ◌+◌, ◌≤◌, ◌<◌}
use native.Mathlib.Omega.{arith}
use borrow.Author.Tests.{ltb-true, ltb-false, lt-ltb, le-ltb}
use lib.Dec.{ltb}
use lib.ListN.{length}
use Rattle.whole.specs.Whole.{say, applied, negated}
use Rattle.whole.specs.declared.arithmetic.Operator.{Operator}
use Rattle.whole.specs.declared.errors.Error.TheVariants.{OutOfStringSpace}
use Rattle.whole.specs.Texts.{longest_string}
use Rattle.words.specs.declared.names.Kind.TheVariants as kind
use Rattle.words.specs.declared.symbols.Function.{Function}
use Rattle.words.proofs.Choices.{by_test}
use Rattle.grammar.specs.Trees as tree
use Rattle.grammar.specs.Trees.{Formula, Arguments}
use Rattle.grammar.specs.Functions.{wants}
use Rattle.grammar.specs.Formulas.{count_of}
use Rattle.grammar.specs.declared.wanting.Want.{Want}
use Rattle.variables.specs.Strings.{Value, whole, text, Room, Outcome, value, fault, then, make, let_all_go, produced}
use Rattle.variables.specs.Variables.{Variables, bytes_of}
use Rattle.strings.specs.Functions.{answered, called}
use Rattle.operators.specs.Values.{whole_then, on_texts, joined, left_right, sides, Taken, taken, stopped, meets, want_at, tested, further, result, value_of, values_of}
use Rattle.promises.specs.Unfinished.{bytes_held, strings_held, all_bytes, Grown, LiveIsExactFacts}
use Rattle.promises.specs.StringSpace as asks
use Rattle.promises.specs.StringSpace.{Ask, bytes_in, Exceeds, texts_in, behind, Asks, AsksAmong}
use Rattle.whole.proofs.Never.{never}
use Rattle.promises.proofs.Fourteen.Rooms as rooms
use Rattle.promises.proofs.Fourteen.Rooms.{Spares, negated_spares, applied_spares, say_spares, CallView, call_view, TextsView, texts_view}

-- ---- what is asked for while values wait

pub bytes_behind : (vs : List Value) (us : List (List ℕ)) → bytes_in (texts_in vs ++ us) ≡ all_bytes vs + bytes_in us
unfolding bytes_in texts_in all_bytes
bytes_behind [] us = omega arith
bytes_behind (whole w ∷ vs) us = omega (arith, bytes_behind vs us)
bytes_behind (text b ∷ vs) us = omega (arith, bytes_behind vs us)

pub bytes_waiting : (vs : List Value) → bytes_in (texts_in vs) ≡ all_bytes vs
unfolding bytes_in texts_in all_bytes
bytes_waiting [] = refl
bytes_waiting (whole w ∷ vs) = omega (arith, bytes_waiting vs)
bytes_waiting (text b ∷ vs) = omega (arith, bytes_waiting vs)

-- what exceeds the room while they wait exceeds the room before them
module _ {before after : Room} (vs : List Value) {n : ℕ} (g : Grown before after (all_bytes vs) n) (k : Ask) where
  exceeds_before : Exceeds after.limit after.live k → Exceeds before.limit before.live (behind vs k)
  exceeds_before h = omega (arith, h, g.limit, g.live, bytes_behind vs k.unfinished)

  exceeds_after : Exceeds before.limit before.live (behind vs k) → Exceeds after.limit after.live k
  exceeds_after h = omega (arith, h, g.limit, g.live, bytes_behind vs k.unfinished)

-- one value that waits
pub one_waits : {before after : Room} (v : Value) → Grown before after (bytes_held v) (strings_held v) → Grown before after (all_bytes (v ∷ [])) (strings_held v)
unfolding all_bytes
one_waits v g = record { limit = g.limit; live = omega (arith, g.live); unfinished = g.unfinished }

-- ---- asking

pub make_over : (b : List ℕ) (room : Room) {after : Room} → make b room ≡ fault OutOfStringSpace after → room.limit < room.live + length b
unfolding make
make_over b room e =
    by_test (ltb room.limit (room.live + length b)) (λ t. ltb-true _ _ t)
    (λ t. let f = rw t at e in never (cc))

pub make_refused : (b : List ℕ) (room : Room) → room.limit < room.live + length b → make b room ≡ fault OutOfStringSpace room
unfolding make
make_refused b room h = rw (lt-ltb _ _ h)

then_over : (vs : List Value) (o : Outcome) {after : Room} → then o (λ v r. value v (let_all_go vs r)) ≡ fault OutOfStringSpace after
    → o ≡ fault OutOfStringSpace after
then_over vs (value v r) e = never (cc)
then_over vs (fault x r) e = e

produced_over : (b : List ℕ) (vs : List Value) (room : Room) {after : Room} → produced b vs room ≡ fault OutOfStringSpace after
    → (length b ≤ longest_string) × (room.limit < room.live + length b)
unfolding produced
produced_over b vs room e =
    by_test (ltb longest_string (length b)) (λ t. let f = rw t at e in never (cc))
    (λ t. (ltb-false _ _ t, make_over b room (then_over vs (make b room) (rw t at e))))

produced_refused : (b : List ℕ) (vs : List Value) (room : Room) → length b ≤ longest_string → room.limit < room.live + length b
    → produced b vs room ≡ fault OutOfStringSpace room
unfolding produced
produced_refused b vs room s h = rw (le-ltb _ _ s, make_refused b room h)

-- ---- what asks for nothing never gives 14

answered_never : (a : Result ℕ Error) → Spares a → (vs : List Value) (room : Room) {after : Room} → answered a vs room ≡ fault OutOfStringSpace after → ⊥
answered_never (Ok w) h vs room e = never (cc)
answered_never (Err x) h vs room e = h (cc)

whole_over : (o : Outcome) (go : ℕ → Room → Outcome) {after : Room} → ((w : ℕ) (r : Room) → go w r ≡ fault OutOfStringSpace after → ⊥)
    → whole_then o go ≡ fault OutOfStringSpace after → o ≡ fault OutOfStringSpace after
whole_over (value (whole w) r) go h e = absurd (h w r e)
whole_over (value (text b) r) go h e = never (cc)
whole_over (fault x r) go h e = e

tested_over : (w : Want) (before : List Value) (o : Outcome) {after : Room} → tested w before o ≡ stopped OutOfStringSpace after
    → o ≡ fault OutOfStringSpace after
tested_over w before (value v r) e =
    by_test (meets w v) (λ t. let f = rw t at e in never (cc))
    (λ t. let f = rw t at e in never (cc))
tested_over w before (fault x r) e = cc

module _ (exact : LiveIsExactFacts) (vars : Variables) where
  -- ---- a formula that ends in 14 asked for too much

  pub record Over (f : Formula) (room : Room) : Type 0 where
    pub ask : Ask
    pub asks : Asks vars f room ask
    pub exceeds : Exceeds room.limit room.live ask

  pub record OverAmong (a : Arguments) (ws : List Want) (room : Room) : Type 0 where
    pub ask : Ask
    pub asks : AsksAmong vars a ws room ask
    pub exceeds : Exceeds room.limit room.live ask

  -- a value of a formula adds its bytes
  grown : (f : Formula) (room : Room) (v : Value) (after : Room) → value_of f vars room ≡ value v after → Grown room after (bytes_held v) (strings_held v)
  grown f room v after e = rw e at (exact.formulas f vars room)

  grown_all : (a : Arguments) (ws : List Want) (room : Room) (vs : List Value) (after : Room) → values_of a ws vars room ≡ taken vs after
      → Grown room after (all_bytes vs) (Rattle.promises.specs.Unfinished.all_strings vs)
  grown_all a ws room vs after e = rw e at (exact.arguments a ws vars room)

  module _ (op : Operator) (f g : Formula) (room after : Room) where
    joined_over : (a b : List ℕ) (r last : Room) → value_of f vars room ≡ value (text a) r → value_of g vars r ≡ value (text b) last
        → on_texts op a b last ≡ fault OutOfStringSpace after → TextsView op a b → Over (tree.two_sided op f g) room
    unfolding bytes_in
    joined_over a b r last e d h (rooms.joins o) =
        let p = produced_over (a ++ b) (text a ∷ text b ∷ []) last (rw o at h) in
        let u = grown f room (text a) r e in
        let w = grown g r (text b) last d in
        rw o
        (record {
          ask = record { unfinished = a ∷ b ∷ []; bytes = a ++ b };
          asks = asks.joined e d p.0;
          exceeds = omega (arith, p.1, u.limit, u.live, w.limit, w.live);
        })
    joined_over a b r last e d h (rooms.tells t v) =
        absurd (answered_never (say t) (say_spares t) (text a ∷ text b ∷ []) last (sym (v last) ∙ h))
    joined_over a b r last e d h (rooms.wrong v) = let k = sym (v last) ∙ h in never (cc)

    both_over : (a b : Value) (r last : Room) → value_of f vars room ≡ value a r → value_of g vars r ≡ value b last
        → joined op a b last ≡ fault OutOfStringSpace after → Over (tree.two_sided op f g) room
    both_over (whole a) (whole b) r last e d h = absurd (answered_never (applied op a b) (applied_spares op a b) [] last h)
    both_over (whole a) (text b) r last e d h = never (cc)
    both_over (text a) (whole b) r last e d h = never (cc)
    both_over (text a) (text b) r last e d h = joined_over a b r last e d h (texts_view op a b)

    right_over : (a : Value) (r : Room) → value_of f vars room ≡ value a r → left_right op a ≡ true → (o : Outcome) → value_of g vars r ≡ o
        → then o (λ b last. joined op a b last) ≡ fault OutOfStringSpace after → (o ≡ fault OutOfStringSpace after → Over g r)
        → Over (tree.two_sided op f g) room
    right_over a r e t (value b last) d h right = both_over a b r last e d h
    right_over a r e t (fault x last) d h right =
        let y = right h in
        record {
          ask = behind (a ∷ []) y.ask;
          asks = asks.on_right e t y.asks;
          exceeds = exceeds_before (a ∷ []) (one_waits a (grown f room a r e)) y.ask y.exceeds;
        }

    sides_over : (o : Outcome) → value_of f vars room ≡ o → sides op o (λ r. value_of g vars r) ≡ fault OutOfStringSpace after
        → (o ≡ fault OutOfStringSpace after → Over f room) → ((r : Room) → value_of g vars r ≡ fault OutOfStringSpace after → Over g r)
        → Over (tree.two_sided op f g) room
    sides_over (value a r) e h left right =
        by_test (left_right op a) (λ t. right_over a r e t (value_of g vars r) refl (rw t at h) (right r))
        (λ t. let k = rw t at h in never (cc))
    sides_over (fault x r) e h left right = let y = left h in record { ask = y.ask; asks = asks.on_left y.asks; exceeds = y.exceeds }

  module _ (f : Function) (a : Arguments) (room after : Room) where
    called_over : (vs : List Value) (r : Room) → values_of a (wants f (count_of a)) vars room ≡ taken vs r
        → called f vs r ≡ fault OutOfStringSpace after → CallView f vs → Over (tree.call f a) room
    called_over vs r e h (rooms.makes b p) =
        let q = produced_over b vs r (sym (p r) ∙ h) in
        let u = grown_all a (wants f (count_of a)) room vs r e in
        record {
          ask = record { unfinished = texts_in vs; bytes = b };
          asks = asks.resulted e p q.0;
          exceeds = omega (arith, q.1, u.limit, u.live, bytes_waiting vs);
        }
    called_over vs r e h (rooms.answers p) = absurd (answered_never (p r).answer (p r).spares vs r (sym (p r).is ∙ h))
    called_over vs r e h (rooms.refuses p) = let k = sym (p r) ∙ h in never (cc)

    result_over : (t : Taken) → values_of a (wants f (count_of a)) vars room ≡ t → result t (λ vs r. called f vs r) ≡ fault OutOfStringSpace after
        → (t ≡ stopped OutOfStringSpace after → OverAmong a (wants f (count_of a)) room) → Over (tree.call f a) room
    result_over (taken vs r) e h among = called_over vs r e h (call_view vs f)
    result_over (stopped x r) e h among =
        let y = among (cc) in record { ask = y.ask; asks = asks.argued y.asks; exceeds = y.exceeds }

  module _ (a : Arguments) (f : Formula) (ws : List Want) (room after : Room) where
    among_over : (t : Taken) → values_of a ws vars room ≡ t
        → further t (λ vs r. tested (want_at ws (count_of a)) vs (value_of f vars r)) ≡ stopped OutOfStringSpace after
        → (t ≡ stopped OutOfStringSpace after → OverAmong a ws room)
        → ((r : Room) → value_of f vars r ≡ fault OutOfStringSpace after → Over f r)
        → OverAmong (tree.also a f) ws room
    among_over (taken vs r) e h among this =
        let y = this r (tested_over (want_at ws (count_of a)) vs (value_of f vars r) h) in
        record {
          ask = behind vs y.ask;
          asks = asks.here e y.asks;
          exceeds = exceeds_before vs (grown_all a ws room vs r e) y.ask y.exceeds;
        }
    among_over (stopped x r) e h among this =
        let y = among h in record { ask = y.ask; asks = asks.earlier y.asks; exceeds = y.exceeds }

  mutual
    unfolding value_of bytes_in

    pub formula_over : (f : Formula) (room after : Room) → value_of f vars room ≡ fault OutOfStringSpace after → Over f room
    formula_over (tree.number w) room after e = never (cc)
    formula_over (tree.variable kind.Whole name) room after e = never (cc)
    formula_over (tree.variable kind.Text name) room after e =
        record {
          ask = record { unfinished = []; bytes = bytes_of vars.strings name };
          asks = asks.read;
          exceeds = omega (arith, make_over (bytes_of vars.strings name) room e);
        }
    formula_over (tree.text b) room after e =
        record { ask = record { unfinished = []; bytes = b }; asks = asks.quoted; exceeds = omega (arith, make_over b room e) }
    formula_over (tree.inside f) room after e =
        let y = formula_over f room after e in record { ask = y.ask; asks = asks.within y.asks; exceeds = y.exceeds }
    formula_over (tree.minus f) room after e =
        let y = formula_over f room after (whole_over (value_of f vars room) _ (λ w r. answered_never (negated w) (negated_spares w) [] r) e) in
        record { ask = y.ask; asks = asks.negated y.asks; exceeds = y.exceeds }
    formula_over (tree.complement f) room after e =
        let y = formula_over f room after (whole_over (value_of f vars room) _ (λ w r h. never (cc)) e) in
        record { ask = y.ask; asks = asks.flipped y.asks; exceeds = y.exceeds }
    formula_over (tree.two_sided op f g) room after e =
        sides_over op f g room after (value_of f vars room) refl e (λ h. formula_over f room after h) (λ r h. formula_over g r after h)
    formula_over (tree.call f a) room after e =
        result_over f a room after (values_of a (wants f (count_of a)) vars room) refl e (λ h. arguments_over a (wants f (count_of a)) room after h)

    arguments_over : (a : Arguments) (ws : List Want) (room after : Room) → values_of a ws vars room ≡ stopped OutOfStringSpace after
        → OverAmong a ws room
    arguments_over tree.none ws room after e = never (cc)
    arguments_over (tree.also a f) ws room after e =
        among_over a f ws room after (values_of a ws vars room) refl e (λ h. arguments_over a ws room after h)
        (λ r h. formula_over f r after h)

  -- ---- a formula that asks for too much ends in 14

  abbrev pub Fails : Formula → Room → Type 0
  Fails f room = (after : Room) × (value_of f vars room ≡ fault OutOfStringSpace after)

  abbrev FailsAmong : Arguments → List Want → Room → Type 0
  FailsAmong a ws room = (after : Room) × (values_of a ws vars room ≡ stopped OutOfStringSpace after)

  mutual
    unfolding value_of bytes_in

    pub formula_fails : (f : Formula) (room : Room) (k : Ask) → Asks vars f room k → Exceeds room.limit room.live k → Fails f room
    formula_fails (tree.variable kind.Text name) room k asks.read h = (room, make_refused (bytes_of vars.strings name) room (omega arith))
    formula_fails (tree.text b) room k asks.quoted h = (room, make_refused b room (omega arith))
    formula_fails (tree.inside f) room k (asks.within d) h = formula_fails f room k d h
    formula_fails (tree.minus f) room k (asks.negated d) h = let y = formula_fails f room k d h in (y.0, rw y.1)
    formula_fails (tree.complement f) room k (asks.flipped d) h = let y = formula_fails f room k d h in (y.0, rw y.1)
    formula_fails (tree.two_sided op f g) room k (asks.on_left d) h = let y = formula_fails f room k d h in (y.0, rw y.1)
    formula_fails (tree.two_sided op f g) room k (asks.on_right {after = r} {a = a} {k = j} e t d) h =
        let y = formula_fails g r j d (exceeds_after (a ∷ []) (one_waits a (grown f room a r e)) j h) in (y.0, rw (e, t, y.1))
    formula_fails (tree.two_sided op f g) room k (asks.joined {after = r} {last = last} {a = a} {b = b} e d s) h =
        let u = grown f room (text a) r e in
        let w = grown g r (text b) last d in
        (last, rw (e, d) (produced_refused (a ++ b) (text a ∷ text b ∷ []) last s (omega (arith, h, u.limit, u.live, w.limit, w.live))))
    formula_fails (tree.call f a) room k (asks.argued d) h =
        let y = arguments_fail a (wants f (count_of a)) room k d h in (y.0, rw y.1)
    formula_fails (tree.call f a) room k (asks.resulted {after = r} {vs = vs} {b = b} e p s) h =
        let u = grown_all a (wants f (count_of a)) room vs r e in
        (r, rw e (p r ∙ produced_refused b vs r s (omega (arith, h, u.limit, u.live, bytes_waiting vs))))
    formula_fails (tree.number _) room k x5 h = elim x5 [ ]
    formula_fails (tree.variable kind.Whole name) room k x8 h = elim x8 [ ]

    arguments_fail : (a : Arguments) (ws : List Want) (room : Room) (k : Ask) → AsksAmong vars a ws room k
        → Exceeds room.limit room.live k → FailsAmong a ws room
    arguments_fail (tree.also a f) ws room k (asks.earlier d) h = let y = arguments_fail a ws room k d h in (y.0, rw y.1)
    arguments_fail (tree.also a f) ws room k (asks.here {after = r} {vs = vs} {k = j} e d) h =
        let y = formula_fails f r j d (exceeds_after vs (grown_all a ws room vs r e) j h) in (y.0, rw (e, y.1))
    arguments_fail tree.none ws room k x4 h = elim x4 [ ]
