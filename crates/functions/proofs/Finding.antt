-- INSTR: whether a text stands at a place of the space, and the first place of a text where another stands.
use mathlib.Core.Path.{◌≡◌, refl, sym, ap, ◌∙◌}
use mathlib.Core.Bool.{Bool, true, false, ◌&&◌}
use mathlib.Core.List.{List, [], ◌∷◌}
use Prim.Native.Nat.{ℕ, suc, ◌+◌, ◌-◌, ◌≤◌, ◌<◌}
use native.Mathlib.Nat.{le_refl}
use native.Mathlib.Omega.{arith}
use native.Mathlib.Numerals.{add-one}
use borrow.Author.Tests.{lt-ltb, le-ltb, eq-eqb, ne_eqb}
use lib.Dec.{eqb}
use lib.Pointwise.{pointwise}
use lib.ListN.{length, take, drop, get_or, length-drop}
use lib.Seq.{drop-cons, drop-drop, take-take}
use Rattle.words.proofs.Choices.{by_test}
use Rattle.space.proofs.Parts.{part_below}
use Rattle.strings.specs.Functions.{starts_with, found, place_of}
use Rattle.variables.proofs.Bytewise.{part_length}
use Rattle.whole.proofs.Never.{never}

-- ---- what a text begins with is told by so many bytes

-- that many are the same
starts_front_same : (y t : List ℕ) → pointwise eqb (take (length y) t) y ≡ starts_with y t
unfolding starts_with
starts_front_same [] t = refl
starts_front_same (c ∷ y) [] = refl
starts_front_same (c ∷ y) (b ∷ t) = ap (λ x. eqb b c && x) (starts_front_same y t)

pub starts_same : (y t : List ℕ) (n : ℕ) → length y ≡ n → pointwise eqb (take n t) y ≡ starts_with y t
starts_same y t n e = rw (← e) (starts_front_same y t)

starts_front : (y t u : List ℕ) → take (length y) t ≡ take (length y) u → starts_with y t ≡ starts_with y u
unfolding starts_with
starts_front [] t u e = refl
starts_front (c ∷ y) [] [] e = refl
starts_front (c ∷ y) [] (b ∷ u) e = never (cc)
starts_front (c ∷ y) (a ∷ t) [] e = never (cc)
starts_front (c ∷ y) (a ∷ t) (b ∷ u) e =
    let f : a ≡ b = cc in let g : take (length y) t ≡ take (length y) u = cc in rw (f, starts_front y t u g)

starts_short : (y t : List ℕ) → length t < length y → starts_with y t ≡ false
unfolding starts_with
starts_short [] t h = absurd (omega arith)
starts_short (c ∷ y) [] h = refl
starts_short (c ∷ y) (b ∷ t) h = rw (starts_short y t (omega arith)) (by_test (eqb b c) (λ e. rw e) (λ e. rw e))

found_short : (place : ℕ) (t y : List ℕ) → length t < length y → found place t y ≡ 0
unfolding found
found_short place [] y h = refl
found_short place (b ∷ t) y h = rw (starts_short y (b ∷ t) h) (found_short (suc place) t y (omega arith))

-- ---- the first place where the second text stands in the first one

module _ (x y : List ℕ) (place : ℕ) (one : 1 ≤ place) where
  place_next : place ≤ length x → drop (place - 1) x ≡ get_or x (place - 1) 0 ∷ drop place x
  place_next h = let e : suc (place - 1) ≡ place = omega arith in rw e at (drop-cons x (place - 1) 0 (omega arith))

  pub found_here : place ≤ length x → starts_with y (drop (place - 1) x) ≡ true → found place (drop (place - 1) x) y ≡ place
  unfolding found
  found_here h e = ap (λ t. found place t y) (place_next h) ∙ rw (rw (place_next h) at e)

  pub found_later : place ≤ length x → starts_with y (drop (place - 1) x) ≡ false
      → found place (drop (place - 1) x) y ≡ found (place + 1) (drop (place + 1 - 1) x) y
  unfolding found
  found_later h e =
      let n : place + 1 - 1 ≡ place = omega arith in
      ap (λ t. found place t y) (place_next h) ∙ rw (rw (place_next h) at e, n, add-one place)

  pub found_none : place ≤ length x + 1 → length x + 1 < place + length y → found place (drop (place - 1) x) y ≡ 0
  found_none l h = let d = length-drop (place - 1) x in found_short place (drop (place - 1) x) y (omega arith)

module _ (x y : List ℕ) (start : ℕ) where
  pub place_past : length x < start → place_of start x y ≡ 0
  unfolding place_of
  place_past h = rw (lt-ltb (length x) start h) (by_test (eqb (length x) 0) (λ e. rw e) (λ e. rw e))

  module _ (one : 1 ≤ start) (h : start ≤ length x) where
    pub place_empty : length y ≡ 0 → place_of start x y ≡ start
    unfolding place_of
    place_empty e = rw (ne_eqb (length x) 0 (λ z. omega arith), le-ltb (length x) start h, eq-eqb (length y) 0 e)

    pub place_found : 1 ≤ length y → place_of start x y ≡ found start (drop (start - 1) x) y
    unfolding place_of
    place_found e =
        rw (ne_eqb (length x) 0 (λ z. omega arith), le-ltb (length x) start h, ne_eqb (length y) 0 (λ z. omega arith))

-- ---- the second text stands in the space right after the first one

module _ (s : List ℕ) (from first second : ℕ) where
  abbrev pub First : List ℕ
  First = take first (drop from s)

  abbrev pub Second : List ℕ
  Second = take second (drop (from + first) s)

module _ (s : List ℕ) (from first second : ℕ) (h : from + first + second ≤ length s) where
  abbrev x : List ℕ
  x = First s from first second

  abbrev y : List ℕ
  y = Second s from first second

  first_long : length x ≡ first
  first_long = part_length s from first (omega arith)

  second_long : length y ≡ second
  second_long = part_length s (from + first) second (omega arith)

  module _ (start : ℕ) where
    pub none_after : first < start → 0 ≡ place_of start x y
    none_after l = sym (place_past x y start (omega (arith, first_long)))

    module _ (one : 1 ≤ start) (l : start ≤ first) where
      pub empty_at : second ≡ 0 → start ≡ place_of start x y
      empty_at e = sym (place_empty x y start one (omega (arith, first_long)) (second_long ∙ e))

      pub begins_at : 1 ≤ second → place_of start x y ≡ found start (drop (start - 1) x) y
      begins_at e = place_found x y start one (omega (arith, first_long)) (omega (arith, second_long))

  -- the search comes to a place where the first text has room for the second
  module _ (start place : ℕ) (one : 1 ≤ place) (two : 1 ≤ second) (l : place + second ≤ first + 1)
      (left : place_of start x y ≡ found place (drop (place - 1) x) y)
      {stands : Bool} (answer : stands ≡ starts_with y (drop (from + place - 1) s)) where
    -- it is looked for in the space
    stands_in : starts_with y (drop (place - 1) x) ≡ stands
    stands_in =
        let n : from + (place - 1) ≡ from + place - 1 = omega arith in
        let same : take second (drop (place - 1) x) ≡ take second (drop (from + place - 1) s) =
        part_below x (drop from s) first (place - 1) second (omega arith) (take-take first first (drop from s) (le_refl first))
        ∙ ap (take second) (drop-drop (place - 1) from s ∙ ap (λ k. drop k s) n) in
        starts_front y (drop (place - 1) x) (drop (from + place - 1) s) (rw second_long same) ∙ sym answer

    pub found_at : stands ≡ true → place ≡ place_of start x y
    found_at e = sym (left ∙ found_here x y place one (omega (arith, first_long)) (stands_in ∙ e))

    pub goes_on : stands ≡ false → place_of start x y ≡ found (place + 1) (drop (place + 1 - 1) x) y
    goes_on e = left ∙ found_later x y place one (omega (arith, first_long)) (stands_in ∙ e)

  -- or to one where it has none
  pub none_left : (start place : ℕ) → 1 ≤ place → place ≤ first + 1 → first + 1 < place + second
      → place_of start x y ≡ found place (drop (place - 1) x) y → 0 ≡ place_of start x y
  none_left start place one l n left =
      sym (left ∙ found_none x y place one (omega (arith, first_long)) (omega (arith, first_long, second_long)))
