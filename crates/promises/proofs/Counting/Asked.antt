-- Whatever a formula notes as the most unfinished strings was so before, or is the count of a request that it was granted.
use mathlib.Core.Path.{◌≡◌, refl, sym, ap, ◌∙◌}
use mathlib.Core.List.{List, [], ◌∷◌, ◌++◌}
use mathlib.Core.Logic.{inl}
use Prim.Native.Nat.{ℕ, ◌+◌}
use native.Mathlib.Omega.{arith}
use Rattle.whole.specs.Whole.{applied, negated, flipped, say}
use Rattle.whole.specs.declared.arithmetic.Operator.{Operator}
use Rattle.words.specs.declared.names.Kind.TheVariants as kind
use Rattle.words.specs.declared.symbols.Function.{Function}
use Rattle.words.proofs.Choices.{by_test}
use Rattle.grammar.specs.Trees as tree
use Rattle.grammar.specs.Trees.{Formula, Arguments}
use Rattle.grammar.specs.Functions.{wants}
use Rattle.grammar.specs.Formulas.{count_of}
use Rattle.grammar.specs.declared.wanting.Want.{Want}
use Rattle.variables.specs.Strings.{Value, whole, text, Room, Outcome, value, fault, then}
use Rattle.variables.specs.Variables.{Variables, bytes_of}
use Rattle.strings.specs.Functions.{answered, called}
use Rattle.operators.specs.Values.{on_texts, joined, left_right, sides, Taken, taken, stopped, want_at, tested, further, result, value_of, values_of}
use Rattle.promises.specs.StringSpace as asks
use Rattle.promises.specs.StringSpace.{Ask, bytes_in, texts_in, behind, Asks, AsksAmong}
use Rattle.promises.specs.Unfinished.{LiveIsExactFacts}
use Rattle.promises.specs.Requests.{at_once, Fits}
use Rattle.promises.proofs.Fourteen.Rooms as rooms
use Rattle.promises.proofs.Fourteen.Rooms.{CallView, call_view, TextsView, texts_view}
use Rattle.promises.proofs.Fourteen.Formulas.{bytes_waiting}
use Rattle.promises.proofs.Counting.Rising.{highest_of, highest_in, answered_same, whole_same, tested_same}
use Rattle.promises.proofs.Counting.Few.{texts_count}
use Rattle.promises.proofs.Counting.Formulas.{grown, grown_all, one_grown, fits_before, count_behind}
use Rattle.promises.proofs.Counting.Raising.{Raised, raised_on, raised_as, make_raised, produced_raised}

module _ (exact : LiveIsExactFacts) (vars : Variables) where
  -- a request of a formula that fits, and how many strings are unfinished with it
  pub record AskedBy (f : Formula) (room : Room) (count : ℕ) : Type 0 where
    pub ask : Ask
    pub asks : Asks vars f room ask
    pub fits : Fits room.limit room.live ask
    pub counted : room.unfinished + at_once ask ≡ count

  record AskedAmong (a : Arguments) (ws : List Want) (room : Room) (count : ℕ) : Type 0 where
    ask : Ask
    asks : AsksAmong vars a ws room ask
    fits : Fits room.limit room.live ask
    counted : room.unfinished + at_once ask ≡ count

  abbrev Raises : Formula → Room → ℕ → ℕ → Type 0
  Raises f room before after = Raised (AskedBy f room) before after

  -- ---- two sides

  module _ (op : Operator) (f g : Formula) (room : Room) where
    abbrev Here : ℕ → ℕ → Type 0
    Here before after = Raises (tree.two_sided op f g) room before after

    texts_raised : (a b : List ℕ) (r last : Room) → value_of f vars room ≡ value (text a) r → value_of g vars r ≡ value (text b) last
        → TextsView op a b → Here last.highest (highest_of (on_texts op a b last))
    unfolding bytes_in
    texts_raised a b r last e d (rooms.joins o) =
        let u = grown exact vars f room (text a) r e in
        let w = grown exact vars g r (text b) last d in
        rw o
        (produced_raised (AskedBy (tree.two_sided _ f g) room) (a ++ b) (text a ∷ text b ∷ []) last (λ s h.
        record {
          ask = record { unfinished = a ∷ b ∷ []; bytes = a ++ b };
          asks = asks.joined e d s;
          fits = omega (arith, h, u.limit, u.live, w.limit, w.live);
          counted = omega (arith, u.unfinished, w.unfinished);
        }))
    texts_raised a b r last e d (rooms.tells t v) = inl (ap highest_of (v last) ∙ answered_same (say t) (text a ∷ text b ∷ []) last)
    texts_raised a b r last e d (rooms.wrong v) = inl (ap highest_of (v last))

    both_raised : (a b : Value) (r last : Room) → value_of f vars room ≡ value a r → value_of g vars r ≡ value b last
        → Here last.highest (highest_of (joined op a b last))
    both_raised (whole a) (whole b) r last e d = inl (answered_same (applied op a b) [] last)
    both_raised (whole a) (text b) r last e d = inl refl
    both_raised (text a) (whole b) r last e d = inl refl
    both_raised (text a) (text b) r last e d = texts_raised a b r last e d (texts_view op a b)

    right_raised : (a : Value) (r : Room) → value_of f vars room ≡ value a r → (o : Outcome) → value_of g vars r ≡ o
        → Here r.highest (highest_of o) → Here r.highest (highest_of (then o (λ b last. joined op a b last)))
    right_raised a r e (value b last) d h = raised_on (AskedBy (tree.two_sided op f g) room) h (both_raised a b r last e d)
    right_raised a r e (fault x last) d h = h

    sides_raised : (o : Outcome) → value_of f vars room ≡ o → Raises f room room.highest (highest_of o)
        → ((r : Room) → Raises g r r.highest (highest_of (value_of g vars r)))
        → Here room.highest (highest_of (sides op o (λ r. value_of g vars r)))
    sides_raised (value a r) e left right =
        let h = raised_as (AskedBy f room) (AskedBy (tree.two_sided op f g) room)
        (λ n y. record { ask = y.ask; asks = asks.on_left y.asks; fits = y.fits; counted = y.counted }) left in
        by_test (left_right op a)
        (λ t. rw t
        (raised_on (AskedBy (tree.two_sided op f g) room) h
        (right_raised a r e (value_of g vars r) refl
        (raised_as (AskedBy g r) (AskedBy (tree.two_sided op f g) room)
        (λ n y.
        let w = one_grown a (grown exact vars f room a r e) in
        record {
          ask = behind (a ∷ []) y.ask;
          asks = asks.on_right e t y.asks;
          fits = fits_before (a ∷ []) w y.ask y.fits;
          counted = sym (count_behind (a ∷ []) w y.ask) ∙ y.counted;
        })
        (right r)))))
        (λ t. rw t h)
    sides_raised (fault x r) e left right =
        raised_as (AskedBy f room) (AskedBy (tree.two_sided op f g) room)
        (λ n y. record { ask = y.ask; asks = asks.on_left y.asks; fits = y.fits; counted = y.counted }) left

  -- ---- functions

  module _ (f : Function) (a : Arguments) (room : Room) where
    abbrev Z : ℕ → Type 0
    Z = AskedBy (tree.call f a) room

    called_raised : (vs : List Value) (r : Room) → values_of a (wants f (count_of a)) vars room ≡ taken vs r → CallView f vs
        → Raised Z r.highest (highest_of (called f vs r))
    called_raised vs r e (rooms.makes b p) =
        let u = grown_all exact vars a (wants f (count_of a)) room vs r e in
        rw (p r)
        (produced_raised Z b vs r (λ s h.
        record {
          ask = record { unfinished = texts_in vs; bytes = b };
          asks = asks.resulted e p s;
          fits = omega (arith, h, u.limit, u.live, bytes_waiting vs);
          counted = omega (arith, u.unfinished, texts_count vs);
        }))
    called_raised vs r e (rooms.answers p) = inl (ap highest_of (p r).is ∙ answered_same (p r).answer vs r)
    called_raised vs r e (rooms.refuses p) = inl (ap highest_of (p r))

    among_call : (n : ℕ) → AskedAmong a (wants f (count_of a)) room n → Z n
    among_call n y = record { ask = y.ask; asks = asks.argued y.asks; fits = y.fits; counted = y.counted }

    result_raised : (t : Taken) → values_of a (wants f (count_of a)) vars room ≡ t
        → Raised (AskedAmong a (wants f (count_of a)) room) room.highest (highest_in t)
        → Raised Z room.highest (highest_of (result t (λ vs r. called f vs r)))
    result_raised (taken vs r) e h =
        raised_on Z (raised_as (AskedAmong a (wants f (count_of a)) room) Z among_call h) (called_raised vs r e (call_view vs f))
    result_raised (stopped x r) e h = raised_as (AskedAmong a (wants f (count_of a)) room) Z among_call h

  module _ (a : Arguments) (f : Formula) (ws : List Want) (room : Room) where
    abbrev Among : ℕ → Type 0
    Among = AskedAmong (tree.also a f) ws room

    among_earlier : (n : ℕ) → AskedAmong a ws room n → Among n
    among_earlier n y = record { ask = y.ask; asks = asks.earlier y.asks; fits = y.fits; counted = y.counted }

    among_raised : (t : Taken) → values_of a ws vars room ≡ t → Raised (AskedAmong a ws room) room.highest (highest_in t)
        → ((r : Room) → Raises f r r.highest (highest_of (value_of f vars r)))
        → Raised Among room.highest (highest_in (further t (λ vs r. tested (want_at ws (count_of a)) vs (value_of f vars r))))
    among_raised (taken vs r) e h this =
        let w = grown_all exact vars a ws room vs r e in
        let y = raised_as (AskedBy f r) Among
        (λ n y.
        record {
          ask = behind vs y.ask;
          asks = asks.here e y.asks;
          fits = fits_before vs w y.ask y.fits;
          counted = sym (count_behind vs w y.ask) ∙ y.counted;
        })
        (this r) in
        rw (tested_same (want_at ws (count_of a)) vs (value_of f vars r))
        (raised_on Among (raised_as (AskedAmong a ws room) Among among_earlier h) y)
    among_raised (stopped x r) e h this = raised_as (AskedAmong a ws room) Among among_earlier h

  -- ---- formulas

  mutual
    unfolding value_of values_of bytes_in

    pub formula_raised : (f : Formula) (room : Room) → Raised (AskedBy f room) room.highest (highest_of (value_of f vars room))
    formula_raised (tree.number w) room = inl refl
    formula_raised (tree.variable kind.Whole name) room = inl refl
    formula_raised (tree.variable kind.Text name) room =
        make_raised (AskedBy (tree.variable kind.Text name) room) (bytes_of vars.strings name) room (λ h.
        record {
          ask = record { unfinished = []; bytes = bytes_of vars.strings name };
          asks = asks.read;
          fits = omega (arith, h);
          counted = omega arith;
        })
    formula_raised (tree.text b) room =
        make_raised (AskedBy (tree.text b) room) b room (λ h.
        record { ask = record { unfinished = []; bytes = b }; asks = asks.quoted; fits = omega (arith, h); counted = omega arith })
    formula_raised (tree.inside f) room =
        raised_as (AskedBy f room) (AskedBy (tree.inside f) room)
        (λ n y. record { ask = y.ask; asks = asks.within y.asks; fits = y.fits; counted = y.counted }) (formula_raised f room)
    formula_raised (tree.minus f) room =
        rw (whole_same (value_of f vars room) (λ w after. answered (negated w) [] after) (λ w r. answered_same (negated w) [] r))
        (raised_as (AskedBy f room) (AskedBy (tree.minus f) room)
        (λ n y. record { ask = y.ask; asks = asks.negated y.asks; fits = y.fits; counted = y.counted }) (formula_raised f room))
    formula_raised (tree.complement f) room =
        rw (whole_same (value_of f vars room) (λ w after. value (whole (flipped w)) after) (λ w r. refl))
        (raised_as (AskedBy f room) (AskedBy (tree.complement f) room)
        (λ n y. record { ask = y.ask; asks = asks.flipped y.asks; fits = y.fits; counted = y.counted }) (formula_raised f room))
    formula_raised (tree.two_sided op f g) room =
        sides_raised op f g room (value_of f vars room) refl (formula_raised f room) (λ r. formula_raised g r)
    formula_raised (tree.call f a) room =
        result_raised f a room (values_of a (wants f (count_of a)) vars room) refl (arguments_raised a (wants f (count_of a)) room)

    arguments_raised : (a : Arguments) (ws : List Want) (room : Room)
        → Raised (AskedAmong a ws room) room.highest (highest_in (values_of a ws vars room))
    arguments_raised tree.none ws room = inl refl
    arguments_raised (tree.also a f) ws room =
        among_raised a f ws room (values_of a ws vars room) refl (arguments_raised a ws room) (λ r. formula_raised f r)
