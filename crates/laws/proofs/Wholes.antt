-- The laws of whole numbers. A formula that gives one leaves the room as it was, so that another has the same space before and after it.
use Rattle.std.specs.Prelude.{Err, Ok, Result, ℕ}
use Rattle.whole.specs.declared.errors.Error.{Error}
use mathlib.Core.Path.{◌≡◌, refl, sym, ap, ap₂, ◌∙◌}
use mathlib.Core.Bool.{true, false, false≢true}
use Prim.Native.Nat.{ℕ}
use native.Mathlib.Omega.{arith}
use lib.Bits.{bit_and}
use Rattle.whole.specs.Whole.{applied, flipped}
use Rattle.whole.specs.declared.arithmetic.Operator.{Operator}
use Rattle.whole.specs.declared.arithmetic.Operator.TheVariants.{Multiply, Divide, Modulo, And, Or}
use Rattle.whole.proofs.Never.{never}
use Rattle.whole.proofs.Theorems.{and_then, not_and, division}
use Rattle.grammar.specs.Trees as tree
use Rattle.grammar.specs.Trees.{Formula}
use Rattle.variables.specs.Strings.{whole, Room, Outcome, value, let_all_go}
use Rattle.variables.specs.Variables.{Variables}
use Rattle.operators.specs.Values.{value_of}
use Rattle.promises.specs.Unfinished.{ByValue}
use Rattle.promises.proofs.Waiting.Needs.{live_is_exact}
use Rattle.laws.specs.Laws.{without_fre, Gives, NotOfAnd, lowest, minus_one, excepted, DivisionComesBack}
use Rattle.laws.proofs.Rooms.{Agree, values, SameSpace, Nothing, same_in_same_space}

-- in each room with the same space
pub record GivesThere (vars : Variables) (room : Room) (f : Formula) (w : ℕ) (there : Room) : Type 0 where
  pub after : Room
  pub is : value_of f vars there ≡ value (whole w) after
  pub same : SameSpace room after

pub record Steady (vars : Variables) (room : Room) (f : Formula) (w : ℕ) : Type 0 where
  pub free : without_fre f ≡ true
  pub inside : (there : Room) → SameSpace room there → GivesThere vars room f w there

-- a formula that gives a whole number leaves the room as it was
leaves : (f : Formula) (vars : Variables) (before : Room) (w : ℕ) (after : Room) → value_of f vars before ≡ value (whole w) after
    → SameSpace before after
leaves f vars before w after e =
    let grown : ByValue before (value (whole w) after) = rw e at (live_is_exact.formulas f vars before) in
    record { limit = grown.limit; live = omega (arith, grown.live) }

alike : {w : ℕ} {before after : Room} {o : Outcome} → SameSpace before after → Agree SameSpace Nothing (value (whole w) after) o
    → (last : Room) × (o ≡ value (whole w) last) × SameSpace before last
alike n (values v {s = s} m) = (s, refl, record { limit = m.limit ∙ n.limit; live = m.live ∙ n.live })
alike {w = w} {before = before} {after = after} n (Rattle.laws.proofs.Rooms.on_right {e = e} {r = r} x4) = elim x4 [ ]

steady : {vars : Variables} {room : Room} {f : Formula} {w : ℕ} → Gives vars room f (whole w) → Steady vars room f w
steady {vars} {room} {f} {w} g = record {
  free = g.free;
  inside = λ there n.
      let x = alike (leaves f vars room w g.after g.is) (rw g.is at (same_in_same_space f vars room there g.free n)) in
      record { after = x.0; is = x.1; same = x.2 };
}

-- a formula that is steady gives its number in the room itself
steady_gives : {vars : Variables} {room : Room} {f : Formula} {w : ℕ} → Steady vars room f w → Gives vars room f (whole w)
steady_gives {room = room} h =
    let x = h.inside room (record { limit = refl; live = refl }) in record { free = h.free; after = x.after; is = x.is }

module _ {vars : Variables} {room : Room} where
  operator_steady : {op : Operator} {f g : Formula} {a b w : ℕ} → Steady vars room f a → Steady vars room g b → applied op a b ≡ Ok w
      → Steady vars room (tree.two_sided op f g) w
  unfolding value_of without_fre let_all_go
  operator_steady hf hg e = record {
    free = rw (hf.free, hg.free);
    inside = λ there n.
        let x = hf.inside there n in
        let y = hg.inside x.after x.same in
        record { after = y.after; is = rw (x.is, y.is, e); same = y.same };
  }

  complement_steady : {f : Formula} {a : ℕ} → Steady vars room f a → Steady vars room (tree.complement f) (flipped a)
  unfolding value_of without_fre
  complement_steady hf = record {
    free = hf.free;
    inside = λ there n. let x = hf.inside there n in record { after = x.after; is = rw x.is; same = x.same };
  }

  inside_steady : {f : Formula} {a : ℕ} → Steady vars room f a → Steady vars room (tree.inside f) a
  unfolding value_of without_fre
  inside_steady hf = record { free = hf.free; inside = λ there n. let x = hf.inside there n in record { after = x.after; is = x.is; same = x.same } }

pub not_of_and : NotOfAnd
not_of_and vars room A B a b ga gb =
    let h_a = steady ga.gives in
    let h_b = steady gb.gives in (
      flipped (bit_and a b),
      steady_gives (complement_steady (inside_steady (operator_steady {op = And} h_a h_b refl))),
      steady_gives (operator_steady {op = Or} (complement_steady h_a) (complement_steady h_b) (sym (not_and a b ga.word gb.word))),
    )

-- an answer that others follow to a whole number is a whole number
followed : (x : Result ℕ Error) (go : ℕ → Result ℕ Error) (w : ℕ) → and_then x go ≡ Ok w → (q : ℕ) × (x ≡ Ok q) × (go q ≡ Ok w)
followed (Ok q) go w e = (q, refl, e)
followed (Err f) go w e = never (cc)

-- the exceptions
lowest-excepted : excepted lowest minus_one ≡ true
lowest-excepted = refl

zero_excepted : (a : ℕ) → excepted a 0 ≡ true
zero_excepted a = refl

not_zero : (a b : ℕ) → excepted a b ≡ false → b ≡ 0 → ⊥
not_zero a b e z = false≢true (sym e ∙ ap (excepted a) z ∙ zero_excepted a)

not_lowest : (a b : ℕ) → excepted a b ≡ false → a ≡ lowest → b ≡ minus_one → ⊥
not_lowest a b e x y = false≢true (sym e ∙ ap₂ excepted x y ∙ lowest-excepted)

pub division_comes_back : DivisionComesBack
division_comes_back vars room A B a b ga gb e =
    let h_a = steady ga.gives in
    let h_b = steady gb.gives in
    let q = followed (applied Divide a b) _ a (division a b ga.word gb.word (not_zero a b e) (not_lowest a b e)) in
    let p = followed (applied Multiply q.0 b) _ a q.2 in
    let r = followed (applied Modulo a b) _ a p.2 in
    steady_gives
    (operator_steady
    (operator_steady (inside_steady (operator_steady h_a h_b q.1)) h_b p.1)
    (operator_steady h_a h_b r.1) r.2)
