-- The most unfinished strings that a formula notes is the largest count of the requests that it was granted.
use mathlib.Core.Path.{◌≡◌, refl}
use mathlib.Core.List.{List, [], ◌∷◌, ◌++◌}
use Prim.Native.Nat.{ℕ, ◌+◌, ◌≤◌}
use native.Mathlib.Omega.{arith}
use borrow.Author.Tests.{le-ltb}
use lib.ListN.{length}
use Rattle.whole.specs.Texts.{longest_string}
use Rattle.whole.specs.Whole.{negated, flipped}
use Rattle.words.specs.declared.names.Kind.TheVariants as kind
use Rattle.grammar.specs.Trees as tree
use Rattle.grammar.specs.Trees.{Formula, Arguments}
use Rattle.grammar.specs.Functions.{wants}
use Rattle.grammar.specs.Formulas.{count_of}
use Rattle.grammar.specs.declared.wanting.Want.{Want}
use Rattle.variables.specs.Strings.{Value, whole, text, Room, value, make, produced}
use Rattle.variables.specs.Variables.{Variables, bytes_of}
use Rattle.strings.specs.Functions.{answered}
use Rattle.operators.specs.Values.{joined, taken, want_at, tested, value_of, values_of}
use Rattle.promises.specs.StringSpace as asks
use Rattle.promises.specs.StringSpace.{Ask, bytes_in, behind, Asks, AsksAmong}
use Rattle.promises.specs.Unfinished.{bytes_held, strings_held, all_bytes, all_strings, Grown, LiveIsExactFacts}
use Rattle.promises.specs.Requests.{at_once, Fits}
use Rattle.promises.proofs.Waiting.Rooms.{let_go_highest}
use Rattle.promises.proofs.Fourteen.Formulas.{bytes_behind, bytes_waiting, one_waits}
use Rattle.promises.proofs.Counting.Rising.{highest_of, highest_in, answered_same, joined_rises, whole_same, then_higher, sides_higher, tested_same, further_higher, result_higher, value_rises}
use Rattle.promises.proofs.Counting.Few.{texts_count, behind_count, one_count}

-- ---- a string that is made is counted

pub make_counts : (b : List ℕ) (room : Room) → room.live + length b ≤ room.limit → room.unfinished + 1 ≤ highest_of (make b room)
unfolding make
make_counts b room h = rw (le-ltb room.limit (room.live + length b) h) (omega arith)

produced_counts : (b : List ℕ) (vs : List Value) (room : Room) → length b ≤ longest_string → room.live + length b ≤ room.limit
    → room.unfinished + 1 ≤ highest_of (produced b vs room)
unfolding produced make
produced_counts b vs room s h = rw (le-ltb longest_string (length b) s, le-ltb room.limit (room.live + length b) h) (rw let_go_highest (omega arith))

-- what fits while some values wait is counted with them
module _ {before after : Room} (vs : List Value) (g : Grown before after (all_bytes vs) (all_strings vs)) (k : Ask) where
  fits_after : Fits before.limit before.live (behind vs k) → Fits after.limit after.live k
  fits_after h = omega (arith, h, g.limit, g.live, bytes_behind vs k.unfinished)

  pub fits_before : Fits after.limit after.live k → Fits before.limit before.live (behind vs k)
  fits_before h = omega (arith, h, g.limit, g.live, bytes_behind vs k.unfinished)

  pub count_behind : after.unfinished + at_once k ≡ before.unfinished + at_once (behind vs k)
  count_behind = omega (arith, g.unfinished, behind_count vs k.unfinished)

pub one_grown : {before after : Room} (v : Value) → Grown before after (bytes_held v) (strings_held v) → Grown before after (all_bytes (v ∷ [])) (all_strings (v ∷ []))
one_grown v g = let h = one_waits v g in record { limit = h.limit; live = h.live; unfinished = omega (arith, h.unfinished, one_count v) }

module _ (exact : LiveIsExactFacts) (vars : Variables) where
  pub grown : (f : Formula) (room : Room) (v : Value) (after : Room) → value_of f vars room ≡ value v after → Grown room after (bytes_held v) (strings_held v)
  grown f room v after e = rw e at (exact.formulas f vars room)

  pub grown_all : (a : Arguments) (ws : List Want) (room : Room) (vs : List Value) (after : Room) → values_of a ws vars room ≡ taken vs after
      → Grown room after (all_bytes vs) (all_strings vs)
  grown_all a ws room vs after e = rw e at (exact.arguments a ws vars room)

  -- ---- a request that is granted is counted

  mutual
    unfolding value_of values_of bytes_in

    pub formula_counts : (f : Formula) (room : Room) (k : Ask) → Asks vars f room k → Fits room.limit room.live k
        → room.unfinished + at_once k ≤ highest_of (value_of f vars room)
    formula_counts (tree.variable kind.Text name) room k asks.read h =
        let c = make_counts (bytes_of vars.strings name) room (omega (arith, h)) in omega (arith, c)
    formula_counts (tree.text b) room k asks.quoted h = let c = make_counts b room (omega (arith, h)) in omega (arith, c)
    formula_counts (tree.inside f) room k (asks.within d) h = formula_counts f room k d h
    formula_counts (tree.minus f) room k (asks.negated d) h =
        let e = whole_same (value_of f vars room) (λ w after. answered (negated w) [] after) (λ w r. answered_same (negated w) [] r) in
        omega (arith, e, formula_counts f room k d h)
    formula_counts (tree.complement f) room k (asks.flipped d) h =
        let e = whole_same (value_of f vars room) (λ w after. value (whole (flipped w)) after) (λ w r. refl) in
        omega (arith, e, formula_counts f room k d h)
    formula_counts (tree.two_sided op f g) room k (asks.on_left d) h =
        let e = sides_higher op (value_of f vars room) (λ after. value_of g vars after) (λ r. value_rises g vars r) in
        omega (arith, e, formula_counts f room k d h)
    formula_counts (tree.two_sided op f g) room k (asks.on_right {after = r} {a = a} {k = j} e t d) h =
        let w = one_grown a (grown f room a r e) in
        let c = formula_counts g r j d (fits_after (a ∷ []) w j h) in
        let u = then_higher (value_of g vars r) (λ b after. joined op a b after) (λ b after. joined_rises op a b after) in
        let n = count_behind (a ∷ []) w j in
        rw (e, t) (omega (arith, c, u, n))
    formula_counts (tree.two_sided op f g) room k (asks.joined {after = r} {last = last} {a = a} {b = b} e d s) h =
        let u = grown f room (text a) r e in
        let w = grown g r (text b) last d in
        let c = produced_counts (a ++ b) (text a ∷ text b ∷ []) last s (omega (arith, h, u.limit, u.live, w.limit, w.live)) in
        rw (e, d) (omega (arith, c, u.unfinished, w.unfinished))
    formula_counts (tree.call f a) room k (asks.argued d) h =
        let e = result_higher (values_of a (wants f (count_of a)) vars room) f in
        omega (arith, e, arguments_count a (wants f (count_of a)) room k d h)
    formula_counts (tree.call f a) room k (asks.resulted {after = r} {vs = vs} {b = b} e p s) h =
        let u = grown_all a (wants f (count_of a)) room vs r e in
        let c = produced_counts b vs r s (omega (arith, h, u.limit, u.live, bytes_waiting vs)) in
        rw (e, p r) (omega (arith, c, u.unfinished, texts_count vs))
    formula_counts (tree.number _) room k x5 h = elim x5 [ ]
    formula_counts (tree.variable kind.Whole name) room k x8 h = elim x8 [ ]

    arguments_count : (a : Arguments) (ws : List Want) (room : Room) (k : Ask) → AsksAmong vars a ws room k
        → Fits room.limit room.live k → room.unfinished + at_once k ≤ highest_in (values_of a ws vars room)
    arguments_count (tree.also a f) ws room k (asks.earlier d) h =
        let e = further_higher (values_of a ws vars room) (λ vs after. tested (want_at ws (count_of a)) vs (value_of f vars after))
        (λ vs r. let t = tested_same (want_at ws (count_of a)) vs (value_of f vars r) in omega (arith, t, value_rises f vars r)) in
        omega (arith, e, arguments_count a ws room k d h)
    arguments_count (tree.also a f) ws room k (asks.here {after = r} {vs = vs} {k = j} e d) h =
        let w = grown_all a ws room vs r e in
        let c = formula_counts f r j d (fits_after vs w j h) in
        let t = tested_same (want_at ws (count_of a)) vs (value_of f vars r) in
        let n = count_behind vs w j in
        rw e (omega (arith, c, t, n))
    arguments_count tree.none ws room k x4 h = elim x4 [ ]
