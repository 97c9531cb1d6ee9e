-- A formula nests as deep as its parts: a left side, and one pair of parentheses more than an argument.
use mathlib.Core.Path.{◌≡◌}
use mathlib.Core.List.{List}
use Prim.Native.Nat.{ℕ, zero, suc, ◌≤◌}
use native.Mathlib.Omega.{arith}
use Rattle.whole.specs.declared.arithmetic.Operator.{Operator}
use Rattle.words.specs.declared.symbols.Function.{Function}
use Rattle.words.specs.declared.symbols.Scanned.{Scanned}
use Rattle.words.specs.declared.symbols.Sign.TheVariants.{Close, Comma}
use Rattle.words.proofs.Choices.{by_test}
use Rattle.grammar.specs.Tests.{is_symbol}
use Rattle.grammar.specs.Trees.{Formula, two_sided, Arguments, also}
use Rattle.grammar.specs.Functions.{takes}
use Rattle.grammar.specs.Formulas.{right_level, tight_operator, Reading, bad, good, mapped, after, count_of, called, enough, formula_at, climb_at, arguments_at}
use Rattle.skimming.specs.bridge.Remaining.{climb_of, arguments_of}
use Rattle.skimming.proofs.Grammar.{by_found}
use Rattle.expressions.specs.Types.{depth_of, deepest_of}

abbrev Deep : ℕ → Reading → Type 0
Deep d bad = Unit {0}
Deep d (good f u) = d ≤ depth_of f

-- ---- a left side

sides_deep : (d : ℕ) (op : Operator) (g : Formula) (x : Reading) → d ≤ depth_of g → Deep d (mapped (two_sided op g) x)
unfolding depth_of
sides_deep d op g bad h = tt
sides_deep d op g (good f u) h = omega arith

climb_deep : (n : ℕ) (s : List ℕ) (level d : ℕ) (x : Reading) → Deep d x → Deep d (climb_at n s level x)
unfolding formula_at
climb_deep zero s level d x h = tt
climb_deep (suc n) s level d bad h = tt
climb_deep (suc n) s level d (good g t) h =
    by_found (tight_operator level t.token)
    (λ op o.
    let y = formula_at n s (right_level op) (after s t) in
    rw o (climb_deep n s level d (mapped (two_sided op g) y) (sides_deep d op g y h)))
    (λ o. rw o h)

pub left_depth : (s : List ℕ) (level : ℕ) (g : Formula) (t : Scanned) {f : Formula} {u : Scanned} → climb_of s level (good g t) ≡ good f u
    → depth_of g ≤ depth_of f
unfolding climb_of
left_depth s level g t {f} {u} c = let k : depth_of g ≤ depth_of f = rw c at (climb_deep (enough s) s level (depth_of g) (good g t) (omega arith)) in k

-- ---- arguments

called_deep : (d : ℕ) (g : Function) (a : Arguments) (t : Scanned) → d ≤ suc (deepest_of a) → Deep d (called g a t)
unfolding depth_of
called_deep d g a t h = by_test (takes g (count_of a)) (λ e. rw e h) (λ e. rw e tt)

-- one more argument, given the same of those after it
more_deep : (n : ℕ) (s : List ℕ) (d : ℕ) (g : Function) (a : Arguments) (x : Formula) (t : Scanned) → d ≤ suc (deepest_of (also a x))
    → Deep d (arguments_at n s g (also a x) (formula_at n s 0 (after s t))) → Deep d (arguments_at (suc n) s g a (good x t))
unfolding formula_at
more_deep n s d g a x t h k =
    by_test (is_symbol Comma t.token)
    (λ e. rw e k)
    λ e. rw e (by_test (is_symbol Close t.token) (λ c. rw c (called_deep d g (also a x) (after s t) h)) (λ c. rw c tt))

arguments_deep : (n : ℕ) (s : List ℕ) (d : ℕ) (g : Function) (a : Arguments) (x : Reading) → d ≤ suc (deepest_of a)
    → Deep d (arguments_at n s g a x)
unfolding formula_at depth_of
arguments_deep zero s d g a x h = tt
arguments_deep (suc n) s d g a bad h = tt
arguments_deep (suc n) s d g a (good x t) h =
    more_deep n s d g a x t (omega arith) (arguments_deep n s d g (also a x) (formula_at n s 0 (after s t)) (omega arith))

argument_deep : (n : ℕ) (s : List ℕ) (g : Function) (a : Arguments) (x : Formula) (t : Scanned)
    → Deep (suc (depth_of x)) (arguments_at n s g a (good x t))
unfolding formula_at depth_of
argument_deep zero s g a x t = tt
argument_deep (suc n) s g a x t =
    let d = suc (depth_of x) in
    more_deep n s d g a x t (omega arith) (arguments_deep n s d g (also a x) (formula_at n s 0 (after s t)) (omega arith))

pub argument_depth : (s : List ℕ) (g : Function) (a : Arguments) (x : Formula) (t : Scanned) {f : Formula} {u : Scanned}
    → arguments_of s g a (good x t) ≡ good f u → suc (depth_of x) ≤ depth_of f
unfolding arguments_of
argument_depth s g a x t {f} {u} c = let k : suc (depth_of x) ≤ depth_of f = rw c at (argument_deep (enough s) s g a x t) in k
