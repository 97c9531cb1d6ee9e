-- Arguments whose texts stand side by side: one more, and what they have to do with the values that the definition lists.
use mathlib.Core.Path.{◌≡◌, refl, ap}
use mathlib.Core.List.{List, [], ◌∷◌, ◌++◌}
use Prim.Native.Nat.{ℕ, suc, ◌+◌, ◌≤◌, ◌<◌}
use native.Mathlib.Omega.{arith}
use lib.ListN.{take, drop}
use Rattle.space.proofs.Parts.{part_below}
use Rattle.grammar.specs.declared.wanting.Want.{Want}
use Rattle.grammar.specs.declared.wanting.Want.TheVariants as want
use Rattle.variables.specs.Strings.{text}
use Rattle.operators.specs.Values.{meets}
use Rattle.functions.specs.bridge.Memory.{count_of, with_argument, meets_want}
use Rattle.strings.specs.bridge.Memory.{argument_length, argument_in, given_length, values_in}
use Rattle.strings.specs.declared.arguments.Argument.{Argument}
use Rattle.strings.specs.declared.arguments.Argument.TheVariants as argument
use Rattle.strings.specs.declared.arguments.Given.{Given}
use Rattle.strings.specs.declared.arguments.Given.TheVariants as goal

-- ---- one argument

-- it is of the type that is wanted where its value is
pub meets_same : (w : Want) (a : Argument) (s : List ℕ) → meets w (argument_in a s) ≡ meets_want w a
meets_same want.Whole (argument.Whole w) s = refl
meets_same want.Whole (argument.Text n) s = refl
meets_same want.Text (argument.Whole w) s = refl
meets_same want.Text (argument.Text n) s = refl
meets_same want.Either (argument.Whole w) s = refl
meets_same want.Either (argument.Text n) s = refl

argument_kept : (a : Argument) (s t : List ℕ) (at n : ℕ) → at + argument_length a ≤ n → take n t ≡ take n s
    → argument_in a (drop at t) ≡ argument_in a (drop at s)
argument_kept (argument.Whole w) s t at n h e = refl
argument_kept (argument.Text m) s t at n h e = ap text (part_below t s n at m h e)

-- ---- those so far

-- they are the same where their bytes are
pub values_kept : (g : Given) (s t : List ℕ) → take (given_length g) t ≡ take (given_length g) s → values_in g t ≡ values_in g s
values_kept goal.None s t e = refl
values_kept (goal.One a) s t e = let i = argument_kept a s t 0 (given_length (goal.One a)) (omega arith) e in rw i
values_kept (goal.Two a b) s t e =
    let n = given_length (goal.Two a b) in
    let i = argument_kept a s t 0 n (omega arith) e in
    let j = argument_kept b s t (argument_length a) n (omega arith) e in
    rw (i, j)
values_kept (goal.Three a b c) s t e =
    let n = given_length (goal.Three a b c) in
    let i = argument_kept a s t 0 n (omega arith) e in
    let j = argument_kept b s t (argument_length a) n (omega arith) e in
    let k = argument_kept c s t (argument_length a + argument_length b) n (omega arith) e in
    rw (i, j, k)

-- ---- one more

module _ (x : Argument) where
  pub more_count : (g : Given) → count_of g < 3 → count_of (with_argument g x) ≡ suc (count_of g)
  more_count goal.None h = refl
  more_count (goal.One a) h = refl
  more_count (goal.Two a b) h = refl
  more_count (goal.Three a b c) h = absurd (omega arith)

  pub more_length : (g : Given) → count_of g < 3 → given_length (with_argument g x) ≡ given_length g + argument_length x
  more_length goal.None h = omega arith
  more_length (goal.One a) h = omega arith
  more_length (goal.Two a b) h = omega arith
  more_length (goal.Three a b c) h = absurd (omega arith)

  pub more_values : (g : Given) (s : List ℕ) → count_of g < 3
      → values_in (with_argument g x) s ≡ values_in g s ++ (argument_in x (drop (given_length g) s) ∷ [])
  more_values goal.None s h = refl
  more_values (goal.One a) s h = let e : argument_length a + 0 + 0 ≡ argument_length a = omega arith in rw e
  more_values (goal.Two a b) s h =
      let e : argument_length a + argument_length b + 0 ≡ argument_length a + argument_length b = omega arith in rw e
  more_values (goal.Three a b c) s h = absurd (omega arith)
