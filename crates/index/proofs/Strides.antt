-- Words taken some at a time: the pairs and rows of an index from one of them on.
use Rattle.std.specs.Prelude.{None, Some}
use mathlib.Core.Path.{◌≡◌, refl, sym, ap, ◌∙◌}
use mathlib.Core.Bool.{Bool, true, false, cond, ◌||◌}
use mathlib.Core.List.{List, [], ◌++◌}
use Prim.Native.Nat.{ℕ, suc, ◌+◌, ◌*◌, ◌-◌, ◌≤◌, ◌<◌, min}
use native.Mathlib.Omega.{arith}
use borrow.Author.Tests.{eq-eqb, ne_eqb}
use lib.Dec.{eqb}
use lib.ListN.{get_or, drop}
use lib.Seq.{get_or-drop, drop-drop}
use Rattle.words.specs.Places.{place}
use Rattle.words.specs.declared.places.LineNumber.{LineNumber}
use Rattle.index.specs.Callers.{in_front_if}
use Rattle.index.specs.Asking.{start_among, line_in, naming_among}
use Rattle.index.specs.bridge.Noting.{named_among}

-- one is left, and those after it
one_left : (i n : ℕ) → i < n → n - i ≡ suc (n - (i + 1))
one_left i n h = omega arith

named_next : (n count i : ℕ) (pairs : List ℕ) → i < count
    → named_among n (count - i) (drop (2 * i) pairs) ≡ eqb (get_or pairs (2 * i) 0) n || named_among n (count - (i + 1)) (drop (2 * (i + 1)) pairs)
unfolding named_among
named_next n count i pairs h =
    let z : 2 * i + 0 ≡ 2 * i = omega arith in
    let s : 2 * i + 2 ≡ 2 * (i + 1) = omega arith in
    rw (one_left i count h, get_or-drop (2 * i) pairs 0 0, z, drop-drop 2 (2 * i) pairs, s)

-- a pair that names the line decides,
pub named_here : (n count i : ℕ) (pairs : List ℕ) → i < count → get_or pairs (2 * i) 0 ≡ n → true ≡ named_among n (count - i) (drop (2 * i) pairs)
named_here n count i pairs h e = sym (named_next n count i pairs h ∙ rw (eq-eqb _ _ e))

-- and otherwise those after it do
pub named_later : (n count i : ℕ) (pairs : List ℕ) → i < count → (get_or pairs (2 * i) 0 ≡ n → ⊥)
    → named_among n (count - (i + 1)) (drop (2 * (i + 1)) pairs) ≡ named_among n (count - i) (drop (2 * i) pairs)
named_later n count i pairs h e = sym (named_next n count i pairs h ∙ rw (ne_eqb _ _ e))

pub named_none : (n count i : ℕ) (pairs : List ℕ) → count ≤ i → named_among n (count - i) (drop (2 * i) pairs) ≡ false
unfolding named_among
named_none n count i pairs h = let e : count - i ≡ 0 = omega arith in rw e

-- ---- the rows

start_next : (n count i : ℕ) (index : List ℕ) → i < count
    → start_among n (count - i) (drop (1 + 6 * i) index)
    ≡ cond (eqb (get_or index (1 + 6 * i) 0) n) (Some (place (get_or index (1 + 6 * i + 1) 0))) (start_among n (count - (i + 1)) (drop (1 + 6 * (i + 1)) index))
unfolding start_among
start_next n count i index h =
    let z : 1 + 6 * i + 0 ≡ 1 + 6 * i = omega arith in
    let s : 1 + 6 * i + 6 ≡ 1 + 6 * (i + 1) = omega arith in
    rw (one_left i count h, get_or-drop (1 + 6 * i) index 0 0, get_or-drop (1 + 6 * i) index 1 0, z, drop-drop 6 (1 + 6 * i) index, s)

-- all rows, from the first on
pub start_all : (index : List ℕ) (n : LineNumber) (k : ℕ) → k ≡ min (get_or index 0 0) 512 → start_among n.0 (k - 0) (drop 1 index) ≡ line_in index n
start_all index n k e = let z : k - 0 ≡ k = omega arith in ap (λ m. start_among n.0 m (drop 1 index)) (z ∙ e)

module _ (n count i : ℕ) (index : List ℕ) where
  -- a row with the number tells where its line starts,
  pub start_here : i < count → get_or index (1 + 6 * i) 0 ≡ n
      → Some (place (get_or index (1 + 6 * i + 1) 0)) ≡ start_among n (count - i) (drop (1 + 6 * i) index)
  start_here h e = sym (start_next n count i index h ∙ rw (eq-eqb _ _ e))

  -- and otherwise those after it do
  pub start_later : i < count → (get_or index (1 + 6 * i) 0 ≡ n → ⊥)
      → start_among n (count - (i + 1)) (drop (1 + 6 * (i + 1)) index) ≡ start_among n (count - i) (drop (1 + 6 * i) index)
  start_later h e = sym (start_next n count i index h ∙ rw (ne_eqb _ _ e))

  pub start_none : count ≤ i → None ≡ start_among n (count - i) (drop (1 + 6 * i) index)
  unfolding start_among
  start_none h = let e : count - i ≡ 0 = omega arith in rw e

-- ---- the lines that name a line

pub in_front : (b : Bool) (n : ℕ) (ns : List ℕ) → in_front_if b n ns ≡ in_front_if b n [] ++ ns
in_front true n ns = refl
in_front false n ns = refl

module _ (n count i : ℕ) (index : List ℕ) where
  -- a pair, and those after it
  pub naming_next : i < count
      → naming_among n (count - i) (drop (3074 + 2 * i) index)
      ≡ in_front_if (eqb (get_or index (3074 + 2 * i) 0) n) (get_or index (3074 + 2 * i + 1) 0) [] ++ naming_among n (count - (i + 1)) (drop (3074 + 2 * (i + 1)) index)
  unfolding naming_among
  naming_next h =
      let z : 3074 + 2 * i + 0 ≡ 3074 + 2 * i = omega arith in
      let s : 3074 + 2 * i + 2 ≡ 3074 + 2 * (i + 1) = omega arith in
      rw (one_left i count h, get_or-drop (3074 + 2 * i) index 0 0, get_or-drop (3074 + 2 * i) index 1 0, z, drop-drop 2 (3074 + 2 * i) index, s)
      (in_front (eqb (get_or index (3074 + 2 * i) 0) n) (get_or index (3074 + 2 * i + 1) 0) (naming_among n (count - (i + 1)) (drop (3074 + 2 * (i + 1)) index)))

  pub naming_none : count ≤ i → naming_among n (count - i) (drop (3074 + 2 * i) index) ≡ []
  unfolding naming_among
  naming_none h = let e : count - i ≡ 0 = omega arith in rw e
