-- What a function wants at a place of the list that it takes is what the code goes by: the place, and whether there are three.
use mathlib.Core.Path.{◌≡◌, refl}
use mathlib.Core.Bool.{true, false, ◌||◌, false≢true}
use mathlib.Core.Logic.{⊎_elim}
use Prim.Native.Nat.{ℕ, ◌<◌}
use native.Mathlib.Omega.{arith}
use borrow.Author.Tests.{eqb-true}
use lib.Dec.{eqb}
use Rattle.whole.proofs.Numbers.{less}
use Rattle.words.proofs.Choices.{by_test}
use Rattle.words.specs.declared.symbols.Function.{Function}
use Rattle.words.specs.declared.symbols.Function.TheVariants.{Len, Asc, Chr, Left, Right, Mid, Space, String, Instr, Str, Hex, Val, Abs, Sgn, Fre}
use Rattle.grammar.specs.Functions.{form_for, any_for, takes, wants}
use Rattle.operators.specs.Values.{want_at}
use Rattle.functions.specs.bridge.Memory.{want_by}

-- ---- what holds of each place of one argument, of two, and of two or three

module _ (P : ℕ → ℕ → Type 0) (n place : ℕ) (h : place < n) where
  of_one : P 1 0 → n ≡ 1 → P n place
  of_one p e = let z : place ≡ 0 = omega arith in rw (e, z) p

  of_two : P 2 0 → P 2 1 → n ≡ 2 → P n place
  of_two p q e =
      ⊎_elim
      (λ l. let z : place ≡ 0 = omega arith in rw (e, z) p)
      (λ l. let z : place ≡ 1 = omega arith in rw (e, z) q)
      (less place 1)

  of_three : P 3 0 → P 3 1 → P 3 2 → n ≡ 3 → P n place
  of_three p q r e =
      ⊎_elim
      (λ l. let z : place ≡ 0 = omega arith in rw (e, z) p)
      (λ l. ⊎_elim
      (λ k. let z : place ≡ 1 = omega arith in rw (e, z) q)
      (λ k. let z : place ≡ 2 = omega arith in rw (e, z) r)
      (less place 2))
      (less place 1)

  -- by the test of how many there are
  if_one : P 1 0 → eqb 1 n || false ≡ true → P n place
  if_one p t = by_test (eqb 1 n) (λ e. let k = eqb-true 1 n e in of_one p (omega arith)) (λ e. absurd (false≢true (rw e at t)))

  if_two : P 2 0 → P 2 1 → eqb 2 n || false ≡ true → P n place
  if_two p q t = by_test (eqb 2 n) (λ e. let k = eqb-true 2 n e in of_two p q (omega arith)) (λ e. absurd (false≢true (rw e at t)))

  pub if_either : P 2 0 → P 2 1 → P 3 0 → P 3 1 → P 3 2 → eqb 2 n || (eqb 3 n || false) ≡ true → P n place
  if_either p q u v w t =
      by_test (eqb 2 n)
      (λ e. let k = eqb-true 2 n e in of_two p q (omega arith))
      λ e. by_test (eqb 3 n)
      (λ f. let k = eqb-true 3 n f in of_three u v w (omega arith))
      (λ f. absurd (false≢true (rw (e, f) at t)))

-- ---- each function

abbrev Goes : Function → ℕ → ℕ → Type 0
Goes f n place = want_at (wants f n) place ≡ want_by f (eqb n 3) place

pub want_by_lem : (f : Function) (n place : ℕ) → takes f n ≡ true → place < n → want_at (wants f n) place ≡ want_by f (eqb n 3) place
unfolding form_for any_for want_at
want_by_lem Len n place t h = if_one (Goes Len) n place h refl t
want_by_lem Asc n place t h = if_one (Goes Asc) n place h refl t
want_by_lem Chr n place t h = if_one (Goes Chr) n place h refl t
want_by_lem Left n place t h = if_two (Goes Left) n place h refl refl t
want_by_lem Right n place t h = if_two (Goes Right) n place h refl refl t
want_by_lem Mid n place t h = if_either (Goes Mid) n place h refl refl refl refl refl t
want_by_lem Space n place t h = if_one (Goes Space) n place h refl t
want_by_lem String n place t h = if_two (Goes String) n place h refl refl t
want_by_lem Instr n place t h = if_either (Goes Instr) n place h refl refl refl refl refl t
want_by_lem Str n place t h = if_one (Goes Str) n place h refl t
want_by_lem Hex n place t h = if_one (Goes Hex) n place h refl t
want_by_lem Val n place t h = if_one (Goes Val) n place h refl t
want_by_lem Abs n place t h = if_one (Goes Abs) n place h refl t
want_by_lem Sgn n place t h = if_one (Goes Sgn) n place h refl t
want_by_lem Fre n place t h = if_one (Goes Fre) n place h refl t
