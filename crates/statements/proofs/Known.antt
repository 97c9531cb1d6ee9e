-- What is known of types: of a formula that nests too deep nothing is, and it counts as wrong.
use mathlib.Core.Path.{◌≡◌, refl, ◌∙◌}
use mathlib.Core.Bool.{Bool, true, false, ◌&&◌, and-false, and_assoc}
use Prim.Native.Nat.{ℕ, max}
use native.Mathlib.Omega.{arith}
use borrow.Author.Tests.{lt-ltb, le-ltb, ltb-true, ltb-false}
use Rattle.words.specs.declared.names.Kind.{Kind}
use Rattle.words.specs.declared.names.Kind.TheVariants as kind
use Rattle.words.proofs.Choices.{by_test}
use Rattle.grammar.specs.Trees.{Formula}
use Rattle.expressions.specs.Types.{is_of, sort_of, depth_of}
use Rattle.expressions.specs.declared.sorts.Sort.{Sort}
use Rattle.expressions.specs.declared.sorts.Sort.TheVariants.{Wrong}
use Rattle.statements.specs.bridge.Answers.{fits, known_sort}

-- what nothing wrong meets
pub known : (meets : Sort → Bool) → meets Wrong ≡ false → (f : Formula) → meets (known_sort f) ≡ (fits (depth_of f) && meets (sort_of f))
known meets w f = by_test (fits (depth_of f)) (λ e. rw e) (λ e. rw e w)

pub wrong_kind : (k : Kind) → is_of k Wrong ≡ false
wrong_kind kind.Whole = refl
wrong_kind kind.Text = refl

pub fits-max : (a b : ℕ) → fits (max a b) ≡ (fits a && fits b)
fits-max a b =
    by_test (fits a)
    (λ e. by_test (fits b)
    (λ h. rw (e, h) (lt-ltb (max a b) 9 (omega (arith, ltb-true a 9 e, ltb-true b 9 h))))
    (λ h. rw (e, h) (le-ltb (max a b) 9 (omega (arith, ltb-false b 9 h)))))
    (λ e. rw e (le-ltb (max a b) 9 (omega (arith, ltb-false a 9 e))))

-- ---- what fits and what is right, sorted apart

pub apart : (k a b x y : Bool) → (k && ((a && b) && (x && y))) ≡ ((k && (a && x)) && (b && y))
apart false a b x y = refl
apart true false b x y = refl
apart true true true x y = refl
apart true true false true y = refl
apart true true false false y = refl

pub three_apart : (n a b c x y z : Bool) → (((n && (a && x)) && (b && y)) && (c && z)) ≡ ((a && (b && c)) && (n && (x && (y && z))))
three_apart n false b c x y z = rw (and-false n)
three_apart n true false c x y z = rw (and-false (n && x))
three_apart n true true false x y z = rw (and-false ((n && x) && y))
three_apart n true true true x y z = and_assoc (n && x) y z ∙ and_assoc n x (y && z)
