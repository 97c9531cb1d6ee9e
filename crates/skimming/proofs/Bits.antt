-- The marks: what their bits say of a function's arguments.
use mathlib.Core.Path.{◌≡◌, refl, sym, ap, ◌∙◌}
use mathlib.Core.Bool.{false}
use mathlib.Core.List.{List}
use Prim.Native.Nat.{ℕ, zero, suc, ◌/◌, ◌%◌, ◌≤◌}
use native.Mathlib.Omega.{arith}
use borrow.Author.Tests.{ne_eqb}
use lib.Dec.{eqb}
use Rattle.words.specs.declared.symbols.Function.{Function}
use Rattle.words.specs.declared.symbols.Function.TheVariants.{Len, Asc, Chr, Left, Right, Mid, Space, String, Instr, Str, Hex, Val, Abs, Sgn, Fre}
use Rattle.words.specs.declared.symbols.Sign.TheVariants.{Close, Comma}
use Rattle.words.proofs.Choices.{by_test}
use Rattle.grammar.specs.Tests.{is_symbol}
use Rattle.grammar.specs.Trees.{Arguments, also}
use Rattle.grammar.specs.Functions.{any_for, takes}
use Rattle.grammar.specs.Formulas.{Reading, bad, good, after, count_of, formula_at, arguments_at}
use Rattle.skimming.specs.bridge.Marks.{function_mark, less_bits}

far : (m k : ℕ) → m ≤ 3 → eqb m (suc (suc (suc (suc k)))) ≡ false
far m k h = ne_eqb m (suc (suc (suc (suc k)))) (λ e. omega arith)

-- no function takes more than three
takes_few : (f : Function) (k : ℕ) → takes f (suc (suc (suc (suc k)))) ≡ false
unfolding any_for
takes_few Len k = rw (far 1 k (omega arith))
takes_few Asc k = rw (far 1 k (omega arith))
takes_few Chr k = rw (far 1 k (omega arith))
takes_few Left k = rw (far 2 k (omega arith))
takes_few Right k = rw (far 2 k (omega arith))
takes_few Mid k = rw (far 2 k (omega arith), far 3 k (omega arith))
takes_few Space k = rw (far 1 k (omega arith))
takes_few String k = rw (far 2 k (omega arith))
takes_few Instr k = rw (far 2 k (omega arith), far 3 k (omega arith))
takes_few Str k = rw (far 1 k (omega arith))
takes_few Hex k = rw (far 1 k (omega arith))
takes_few Val k = rw (far 1 k (omega arith))
takes_few Abs k = rw (far 1 k (omega arith))
takes_few Sgn k = rw (far 1 k (omega arith))
takes_few Fre k = rw (far 1 k (omega arith))

-- the first three bits of a mark, and that it has no more
record Bits (f : Function) : Type 0 where
  one : takes f 1 ≡ eqb (function_mark f % 2) 1
  two : takes f 2 ≡ eqb (function_mark f / 2 % 2) 1
  three : takes f 3 ≡ eqb (function_mark f / 2 / 2 % 2) 1
  none : function_mark f / 2 / 2 / 2 ≡ 0
  some : function_mark f ≡ 0 → ⊥

bits : (f : Function) → Bits f
unfolding any_for
bits Len = record { one = refl; two = refl; three = refl; none = refl; some = λ e. omega arith }
bits Asc = record { one = refl; two = refl; three = refl; none = refl; some = λ e. omega arith }
bits Chr = record { one = refl; two = refl; three = refl; none = refl; some = λ e. omega arith }
bits Left = record { one = refl; two = refl; three = refl; none = refl; some = λ e. omega arith }
bits Right = record { one = refl; two = refl; three = refl; none = refl; some = λ e. omega arith }
bits Mid = record { one = refl; two = refl; three = refl; none = refl; some = λ e. omega arith }
bits Space = record { one = refl; two = refl; three = refl; none = refl; some = λ e. omega arith }
bits String = record { one = refl; two = refl; three = refl; none = refl; some = λ e. omega arith }
bits Instr = record { one = refl; two = refl; three = refl; none = refl; some = λ e. omega arith }
bits Str = record { one = refl; two = refl; three = refl; none = refl; some = λ e. omega arith }
bits Hex = record { one = refl; two = refl; three = refl; none = refl; some = λ e. omega arith }
bits Val = record { one = refl; two = refl; three = refl; none = refl; some = λ e. omega arith }
bits Abs = record { one = refl; two = refl; three = refl; none = refl; some = λ e. omega arith }
bits Sgn = record { one = refl; two = refl; three = refl; none = refl; some = λ e. omega arith }
bits Fre = record { one = refl; two = refl; three = refl; none = refl; some = λ e. omega arith }

pub mark_some : (f : Function) → function_mark f ≡ 0 → ⊥
mark_some f = (bits f).some

no_bits : (f : Function) (k : ℕ) → less_bits (suc (suc (suc k))) (function_mark f) ≡ 0
unfolding less_bits
no_bits f zero = (bits f).none
no_bits f (suc k) = ap (λ m. m / 2) (no_bits f k)

-- the lowest bit that is left says whether a function takes one argument more than it has
pub takes_mark : (f : Function) (k : ℕ) → takes f (suc k) ≡ eqb (less_bits k (function_mark f) % 2) 1
unfolding less_bits
takes_mark f zero = (bits f).one
takes_mark f (suc zero) = (bits f).two
takes_mark f (suc (suc zero)) = (bits f).three
takes_mark f (suc (suc (suc k))) = takes_few f k ∙ ap (λ m. eqb (m % 2) 1) (sym (no_bits f k))

-- where no bit is left, no further argument helps
pub spent : (n : ℕ) (s : List ℕ) (f : Function) (a : Arguments) (x : Reading) → less_bits (count_of a) (function_mark f) ≡ 0
    → arguments_at n s f a x ≡ bad
unfolding formula_at count_of less_bits
spent zero s f a x h = refl
spent (suc n) s f a bad h = refl
spent (suc n) s f a (good x t) h =
    let e : takes f (suc (count_of a)) ≡ false = takes_mark f (count_of a) ∙ ap (λ m. eqb (m % 2) 1) h in
    by_test (is_symbol Comma t.token)
    (λ c. rw c (spent n s f (also a x) (formula_at n s 0 (after s t)) (ap (λ m. m / 2) h)))
    (λ c. rw c (by_test (is_symbol Close t.token) (λ g. rw (g, e)) (λ g. rw g)))
