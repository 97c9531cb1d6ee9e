-- How two texts compare: exactly one of less, same and greater; and how two texts that stand in the space compare byte by byte.
use mathlib.Core.Path.{◌≡◌, refl, sym, ◌∙◌}
use mathlib.Core.Logic.{◌⊎◌, inl, inr, ⊎_elim}
use mathlib.Core.Bool.{Bool, true, false, cond, false≢true}
use mathlib.Core.List.{List, [], ◌∷◌}
use Prim.Native.Nat.{ℕ, ◌≤◌, ◌<◌}
use native.Mathlib.Omega.{arith}
use borrow.Author.Tests.{lt-ltb, le-ltb, eq-eqb, ne_eqb}
use Rattle.whole.proofs.Numbers.{less}
use Rattle.words.specs.Spellings.{same_bytes}
use Rattle.operators.specs.Values.{is_before}
use Rattle.operators.specs.bridge.Memory.{order_of}
use Rattle.std.specs.declared.cmp.Ordering.TheVariants.{Less, Equal, Greater}
use Rattle.std.specs.Ordering.{is_lt, is_eq, is_gt, nat_cmp}
use Rattle.std.specs.Cmp.Lexicographic.{slice_cmp}

-- ---- by their first bytes

module _ (x c : ℕ) (a b : List ℕ) where
  pub before_less : x < c → is_before (x ∷ a) (c ∷ b) ≡ true
  unfolding is_before
  before_less h = rw (lt-ltb x c h)

  pub before_greater : c < x → is_before (x ∷ a) (c ∷ b) ≡ false
  unfolding is_before
  before_greater h = let n : x ≡ c → ⊥ = λ e. omega arith in let l : c ≤ x = omega arith in rw (le-ltb x c l, ne_eqb x c n)

  pub before_same : x ≡ c → is_before (x ∷ a) (c ∷ b) ≡ is_before a b
  unfolding is_before
  before_same e = let l : c ≤ x = omega arith in rw (le-ltb x c l, eq-eqb x c e)

  pub bytes_other : (x ≡ c → ⊥) → same_bytes (x ∷ a) (c ∷ b) ≡ false
  unfolding same_bytes
  bytes_other n = rw (ne_eqb x c n)

  pub bytes_same : x ≡ c → same_bytes (x ∷ a) (c ∷ b) ≡ same_bytes a b
  unfolding same_bytes
  bytes_same e = rw (eq-eqb x c e)

-- ---- a total order

-- the first of three tests holds, and no other
abbrev pub Only : Bool → Bool → Bool → Type 0
Only x y z = (x ≡ true) × (y ≡ false) × (z ≡ false)

abbrev pub OneOf : Bool → Bool → Bool → Type 0
OneOf x y z = Only x y z ⊎ (Only y x z ⊎ Only z x y)

one_alike : {x y z u v w : Bool} → x ≡ u → y ≡ v → z ≡ w → OneOf u v w → OneOf x y z
one_alike e f g t = rw (e, f, g) t

-- exactly one of two texts is before the other, or they are the same
pub one_of_three : (a b : List ℕ) → OneOf (is_before a b) (same_bytes a b) (is_before b a)
unfolding is_before same_bytes
one_of_three [] [] = inr (inl (refl, refl, refl))
one_of_three [] (c ∷ b) = inl (refl, refl, refl)
one_of_three (x ∷ a) [] = inr (inr (refl, refl, refl))
one_of_three (x ∷ a) (c ∷ b) =
    ⊎_elim
    (λ l. inl (before_less x c a b l, bytes_other x c a b (λ e. omega arith), before_greater c x b a l))
    (λ h. ⊎_elim
    (λ l. inr (inr (before_less c x b a l, before_greater x c a b l, bytes_other x c a b (λ e. omega arith))))
    (λ g. let e : x ≡ c = omega arith in
    one_alike (before_same x c a b e) (bytes_same x c a b e) (before_same c x b a (sym e)) (one_of_three a b))
    (less c x))
    (less x c)

before_cases : (x c : ℕ) (a b : List ℕ) → is_before (x ∷ a) (c ∷ b) ≡ true → (x < c) ⊎ ((x ≡ c) × (is_before a b ≡ true))
before_cases x c a b t =
    ⊎_elim
    inl
    (λ h. ⊎_elim
    (λ l. absurd (false≢true (sym (before_greater x c a b l) ∙ t)))
    (λ g. let e : x ≡ c = omega arith in inr (e, sym (before_same x c a b e) ∙ t))
    (less c x))
    (less x c)

-- what is before a text that is before a third is before that one
pub before_trans : (a b c : List ℕ) → is_before a b ≡ true → is_before b c ≡ true → is_before a c ≡ true
unfolding is_before
before_trans a [] c p q = absurd (false≢true p)
before_trans a (y ∷ b) [] p q = absurd (false≢true q)
before_trans [] (y ∷ b) (z ∷ c) p q = refl
before_trans (x ∷ a) (y ∷ b) (z ∷ c) p q =
    ⊎_elim
    (λ l. ⊎_elim (λ m. before_less x z a c (omega arith)) (λ m. before_less x z a c (omega (arith, m.0))) (before_cases y z b c q))
    (λ l. ⊎_elim
    (λ m. before_less x z a c (omega (arith, l.0)))
    (λ m. before_same x z a c (l.0 ∙ m.0) ∙ before_trans a b c l.1 m.1)
    (before_cases y z b c q))
    (before_cases x y a b p)

-- ---- what the order says

order_of_tests : (x y z : Bool) → OneOf x y z
    → (is_lt (cond x Less (cond z Greater Equal)) ≡ x)
    × (is_eq (cond x Less (cond z Greater Equal)) ≡ y)
    × (is_gt (cond x Less (cond z Greater Equal)) ≡ z)
order_of_tests x y z =
    ⊎_elim
    (λ o. rw (o.0, o.1, o.2) (refl, refl, refl))
    (⊎_elim (λ o. rw (o.0, o.1, o.2) (refl, refl, refl)) (λ o. rw (o.0, o.1, o.2) (refl, refl, refl)))

module _ (a b : List ℕ) where
  pub less_told : is_lt (order_of a b) ≡ is_before a b
  less_told = (order_of_tests (is_before a b) (same_bytes a b) (is_before b a) (one_of_three a b)).0

  pub same_told : is_eq (order_of a b) ≡ same_bytes a b
  same_told = (order_of_tests (is_before a b) (same_bytes a b) (is_before b a) (one_of_three a b)).1

  pub greater_told : is_gt (order_of a b) ≡ is_before b a
  greater_told = (order_of_tests (is_before a b) (same_bytes a b) (is_before b a) (one_of_three a b)).2

-- ---- the library's order of slices

pub order_told : (a b : List ℕ) → slice_cmp nat_cmp a b ≡ order_of a b
unfolding is_before
order_told [] [] = refl
order_told [] (c ∷ b) = refl
order_told (x ∷ a) [] = refl
order_told (x ∷ a) (c ∷ b) =
    ⊎_elim
    (λ l. rw (lt-ltb x c l))
    (λ h. ⊎_elim
    (λ l. let n : x ≡ c → ⊥ = λ e. omega arith in rw (le-ltb x c h, ne_eqb x c n, lt-ltb c x l))
    (λ g. let e : x ≡ c = omega arith in rw (le-ltb x c h, eq-eqb x c e, le-ltb c x g, eq-eqb c x (sym e)) (order_told a b))
    (less c x))
    (less x c)
