-- The classes by numbers, and the rule of a table of them.
use mathlib.Core.Path.{◌≡◌, refl, sym, ap, ◌∙◌}
use mathlib.Core.Bool.{Bool, true, ◌&&◌}
use mathlib.Core.List.{List, [], ◌∷◌}
use Prim.Native.Nat.{ℕ, zero, suc, ◌+◌, ◌<◌}
use native.Mathlib.Omega.{arith}
use borrow.Author.Tests.{eqb-true}
use lib.Dec.{eqb}
use lib.ListN.{length, get_or}
use Rattle.words.specs.Classes.{class_of}
use Rattle.words.specs.declared.classes.ByteClass.{ByteClass}
use Rattle.words.specs.declared.classes.ByteClass.TheVariants.{Letter, Digit, Blank, Sign, Quote, Other}
use Rattle.words.proofs.Choices.{both}

-- ---- classes told apart by numbers

unfoldable pub rank : ByteClass → ℕ
rank Letter = 0
rank Digit = 1
rank Blank = 2
rank Sign = 3
rank Quote = 4
rank Other = 5

ranked : ℕ → ByteClass
ranked zero = Letter
ranked (suc zero) = Digit
ranked (suc (suc zero)) = Blank
ranked (suc (suc (suc zero))) = Sign
ranked (suc (suc (suc (suc zero)))) = Quote
ranked (suc (suc (suc (suc (suc n))))) = Other

rank_back : (k : ByteClass) → ranked (rank k) ≡ k
unfolding rank ranked
rank_back Letter = refl
rank_back Digit = refl
rank_back Blank = refl
rank_back Sign = refl
rank_back Quote = refl
rank_back Other = refl

pub same_rank : (j k : ByteClass) → rank j ≡ rank k → j ≡ k
same_rank j k e = sym (rank_back j) ∙ ap ranked e ∙ rank_back k

-- ---- a table of them, by one test that antt computes, one entry after the other

-- each entry, from the byte i on, is its byte's class
unfoldable pub right_from : ℕ → List ByteClass → Bool
right_from i [] = true
right_from i (x ∷ xs) = eqb (rank x) (rank (class_of i)) && right_from (suc i) xs

right_at : (xs : List ByteClass) (i : ℕ) → right_from i xs ≡ true → (k : ℕ) (d : ByteClass) → k < length xs → get_or xs k d ≡ class_of (i + k)
unfolding right_from
right_at [] i t k d h = absurd (omega arith)
right_at (x ∷ xs) i t zero d h =
    let e : i + 0 ≡ i = omega arith in
    rw e (same_rank x (class_of i) (eqb-true (rank x) (rank (class_of i)) (both (eqb (rank x) (rank (class_of i))) (right_from (suc i) xs) t).0))
right_at (x ∷ xs) i t (suc k) d h =
    let e : i + suc k ≡ suc i + k = omega arith in
    rw e (right_at xs (suc i) (both (eqb (rank x) (rank (class_of i))) (right_from (suc i) xs) t).1 k d (omega arith))

-- and so is what a look finds
pub looked : (xs : List ByteClass) → right_from 0 xs ≡ true → length xs ≡ 256 → (b i : ℕ) → i ≡ b → b < 256 → (d : ByteClass) → get_or xs i d ≡ class_of b
looked xs t l b i j h d = let e : 0 + b ≡ b = omega arith in rw j (rw e at (right_at xs 0 t b d (omega arith)))
