-- The most strings that a formula of a level needs, by how deep its parentheses nest: at one depth the left side of a comparison and
-- that of a `+` wait, and one argument before another.
use mathlib.Core.Path.{◌≡◌, refl}
use mathlib.Core.Bool.{Bool, true, ◌&&◌, false≢true}
use mathlib.Core.List.{List, [], ◌∷◌}
use Prim.Native.Nat.{ℕ, zero, suc, ◌+◌, ◌-◌, ◌*◌, ◌≤◌, ◌<◌}
use native.Mathlib.Omega.{arith}
use borrow.Author.Tests.{leb-true, leb-false, eqb-true}
use lib.Dec.{leb, eqb}
use lib.ListN.{length}
use Rattle.whole.specs.declared.arithmetic.Operator.{Operator}
use Rattle.whole.specs.declared.arithmetic.Operator.TheVariants.{Multiply, Divide, Modulo, Add, Subtract, Equal, Unequal, Less, Greater, AtMost, AtLeast, And, Or, Xor, Eqv, Imp}
use Rattle.words.specs.declared.symbols.Function.{Function}
use Rattle.words.specs.declared.symbols.Function.TheVariants.{Len, Asc, Chr, Left, Right, Mid, Space, String, Instr, Str, Hex, Val, Abs, Sgn, Fre}
use Rattle.words.proofs.Choices.{by_test, both}
use Rattle.grammar.specs.Trees.{Formula, number, variable, text, inside, minus, complement, two_sided, call, Arguments, none, also}
use Rattle.grammar.specs.Functions.{forms_of, form_for, any_for, wants, takes}
use Rattle.grammar.specs.Formulas.{level_of, not_level, tightest, count_of}
use Rattle.expressions.specs.Types.{depth_of, deepest_of, deepest_nesting}
use Rattle.grammar.specs.declared.wanting.Want.{Want}
use Rattle.grammar.specs.declared.wanting.Want.TheVariants as want
use Rattle.expressions.proofs.Levelled.{Levelled, AllLevelled}
use Rattle.operators.specs.Values.{want_at}
use Rattle.promises.specs.Unfinished.{most_unfinished}
use Rattle.promises.proofs.Waiting.Needs.{left_waits, joins, maybe_string, wait_before, needs, needs_of}

-- ---- operators

-- how many left sides of operators of a level or a tighter one can wait as strings: a comparison's and a sum's, a sum's, or none
unfoldable pub waits : ℕ → ℕ
waits level = 2 - (level - level_of Equal)

abbrev pub most : ℕ → ℕ → ℕ
most level depth = 2 + 3 * depth + waits level

waits_falls : (j k : ℕ) → j ≤ k → waits k ≤ waits j
unfolding waits
waits_falls j k h = omega arith

-- while the right side is worked out one string fewer can wait in it, and two strings joined to a third are not too many
operator_waits : (op : Operator) → (left_waits op + waits (suc (level_of op)) ≤ waits (level_of op)) × (joins op ≤ 2 + waits (level_of op))
unfolding waits
operator_waits Multiply = omega arith
operator_waits Divide = omega arith
operator_waits Modulo = omega arith
operator_waits Add = omega arith
operator_waits Subtract = omega arith
operator_waits Equal = omega arith
operator_waits Unequal = omega arith
operator_waits Less = omega arith
operator_waits Greater = omega arith
operator_waits AtMost = omega arith
operator_waits AtLeast = omega arith
operator_waits And = omega arith
operator_waits Or = omega arith
operator_waits Xor = omega arith
operator_waits Eqv = omega arith
operator_waits Imp = omega arith

-- ---- functions

-- before its last argument at most one string waits
unfoldable one_waits : List (List Want) → Bool
one_waits [] = true
one_waits (w ∷ ws) = leb (wait_before w (length w - 1)) 1 && one_waits ws

forms_wait : (f : Function) → one_waits (forms_of f) ≡ true
unfolding one_waits wait_before want_at
forms_wait Len = refl
forms_wait Asc = refl
forms_wait Chr = refl
forms_wait Left = refl
forms_wait Right = refl
forms_wait Mid = refl
forms_wait Space = refl
forms_wait String = refl
forms_wait Instr = refl
forms_wait Str = refl
forms_wait Hex = refl
forms_wait Val = refl
forms_wait Abs = refl
forms_wait Sgn = refl
forms_wait Fre = refl

form_waits : (forms : List (List Want)) (n : ℕ) → one_waits forms ≡ true → any_for forms n ≡ true → wait_before (form_for forms n) (n - 1) ≤ 1
unfolding one_waits form_for any_for
form_waits [] n h e = absurd (false≢true e)
form_waits (w ∷ ws) n h e =
    let b = both (leb (wait_before w (length w - 1)) 1) (one_waits ws) h in
    by_test (eqb (length w) n)
    (λ t. rw t (let l = leb-true (wait_before w (length w - 1)) 1 b.0 in rw (eqb-true (length w) n t) at l))
    (λ t. rw t (form_waits ws n b.1 (rw t at e)))

wait_grows : (ws : List Want) (i n : ℕ) → i ≤ n → wait_before ws i ≤ wait_before ws n
unfolding wait_before
wait_grows ws i zero h = let e : i ≡ 0 = omega arith in rw e (omega arith)
wait_grows ws i (suc n) h =
    by_test (leb i n)
    (λ t. omega (arith, wait_grows ws i n (leb-true i n t)))
    (λ t. let e : i ≡ suc n = omega (arith, leb-false i n t) in rw e (omega arith))

-- each argument of a function that takes so many is begun while at most one string waits
one_waits_lem : (f : Function) (n : ℕ) → takes f n ≡ true → (i : ℕ) → i < n → wait_before (wants f n) i ≤ 1
one_waits_lem f n e i h =
    omega (arith, wait_grows (wants f n) i (n - 1) (omega arith), form_waits (forms_of f) n (forms_wait f) e)

one_string : (w : Want) → maybe_string w ≤ 1
one_string want.Whole = omega arith
one_string want.Text = omega arith
one_string want.Either = omega arith

two_wait : (ws : List Want) (n : ℕ) → ((i : ℕ) → i < n → wait_before ws i ≤ 1) → wait_before ws n ≤ 2
unfolding wait_before
two_wait ws zero h = omega arith
two_wait ws (suc n) h = omega (arith, h n (omega arith), one_string (want_at ws n))

-- ---- formulas

loosest_waits : waits 0 ≡ 2
unfolding waits
loosest_waits = refl

mutual
  unfolding needs needs_of depth_of deepest_of Levelled AllLevelled count_of

  needs-most : (f : Formula) (k : ℕ) → Levelled k f → needs f ≤ most k (depth_of f)
  needs-most (number w) k l = omega arith
  needs-most (variable kind v) k l = omega arith
  needs-most (text t) k l = omega arith
  needs-most (inside f) k l = omega (arith, needs-most f 0 l, loosest_waits)
  needs-most (minus f) k l = omega (arith, needs-most f tightest l.1, waits_falls k tightest (omega arith))
  needs-most (complement f) k l = omega (arith, needs-most f not_level l.1, waits_falls k not_level l.0)
  needs-most (two_sided op f g) k l =
      omega (
        arith,
        needs-most f (level_of op) l.1,
        needs-most g (suc (level_of op)) l.2,
        operator_waits op,
        waits_falls k (level_of op) l.0,
      )
  needs-most (call f a) k l =
      let h = one_waits_lem f (count_of a) l.0 in
      omega (arith, needs_of_most a (wants f (count_of a)) l.1 h, two_wait (wants f (count_of a)) (count_of a) h)

  needs_of_most : (a : Arguments) (ws : List Want) → AllLevelled a
      → ((i : ℕ) → i < count_of a → wait_before ws i ≤ 1) → needs_of a ws ≤ 5 + 3 * deepest_of a
  needs_of_most none ws l h = omega arith
  needs_of_most (also a f) ws l h =
      omega (
        arith,
        needs_of_most a ws l.0 (λ i j. h i (omega arith)),
        h (count_of a) (omega arith),
        needs-most f 0 l.1,
        loosest_waits,
      )

-- a formula whose operators stand in their order, whose functions have as many arguments as they take, and that nests at most 8 deep
pub record Fine (f : Formula) : Type 0 where
  pub level : Levelled 0 f
  pub deep : depth_of f ≤ deepest_nesting

-- eight deep, 2 + 3 · 8 + 2 is the most
pub needs_few : {f : Formula} → Fine f → needs f ≤ most_unfinished
needs_few {f} g = omega (arith, needs-most f 0 g.level, g.deep, loosest_waits)
