-- Every formula that reads is levelled: no operator stands inside a tighter one's side without parentheses, and of two of one level
-- the left one is inside. Every function has as many arguments as it takes.
use Rattle.std.specs.Prelude.{None, Option, Some}
use mathlib.Core.Path.{◌≡◌}
use mathlib.Core.Bool.{true}
use mathlib.Core.List.{List}
use Prim.Native.Nat.{ℕ, zero, suc, ◌≤◌, ◌<◌}
use native.Mathlib.Numerals.{add-one}
use native.Mathlib.Omega.{arith}
use borrow.Author.Tests.{leb-true, leb-false}
use lib.Dec.{leb}
use Rattle.whole.specs.declared.arithmetic.Operator.{Operator}
use Rattle.whole.proofs.Never.{never}
use Rattle.words.specs.declared.places.Place.{Place}
use Rattle.words.specs.declared.symbols.Function.{Function}
use Rattle.words.specs.declared.symbols.Scanned.{Scanned}
use Rattle.words.specs.declared.symbols.Sign.TheVariants.{Open, Close, Comma, Semicolon, Colon, Question, Equal, Minus}
use Rattle.words.specs.declared.symbols.Token.{Token}
use Rattle.words.specs.declared.symbols.Token.TheVariants.{EndOfLine, Keyword, Not, Infix, Call, Named, Number, Hexadecimal, LineOnly, Quoted, Symbol, Unreadable}
use Rattle.words.proofs.Choices.{by_test}
use Rattle.scanner.specs.Tokens.{token_at}
use Rattle.grammar.specs.Tests.{is_symbol}
use Rattle.grammar.specs.Trees.{Formula, number, variable, text, inside, minus, complement, two_sided, call, Arguments, none, also}
use Rattle.grammar.specs.Functions.{takes}
use Rattle.grammar.specs.Formulas.{level_of, not_level, minus_level, tightest, right_level, minus_stands, not_stands, operator_of, tight_enough, tight_operator, Reading, bad, good, mapped, after, closed, count_of, called, enough, formula_at, climb_at, operand_at, arguments_at}
use Rattle.skimming.specs.bridge.Remaining.{formula_in}
use Rattle.skimming.proofs.Grammar.{by_found}
use Rattle.grammar.proofs.Bounds.{level_small}

unfoldable mutual
  -- a formula that can stand, with no parentheses around it, where one of a level is read
  pub Levelled : ℕ → Formula → Type 0
  Levelled k (number w) = Unit {0}
  Levelled k (variable kind v) = Unit {0}
  Levelled k (text t) = Unit {0}
  Levelled k (inside f) = Levelled 0 f
  Levelled k (minus f) = (k ≤ minus_level) × Levelled tightest f
  Levelled k (complement f) = (k ≤ not_level) × Levelled not_level f
  Levelled k (two_sided op f g) = (k ≤ level_of op) × Levelled (level_of op) f × Levelled (suc (level_of op)) g
  Levelled k (call f a) = (takes f (count_of a) ≡ true) × AllLevelled a

  pub AllLevelled : Arguments → Type 0
  AllLevelled none = Unit {0}
  AllLevelled (also a f) = AllLevelled a × Levelled 0 f

-- ---- what follows a formula

-- where no operator of a level follows, each that does is looser
looser : (k : ℕ) (o : Option Operator) (op : Operator) → tight_enough k o ≡ None → o ≡ Some op → level_of op < k
looser k o op e f =
    let g : tight_enough k (Some op) ≡ None = rw f at e in
    by_test (leb k (level_of op))
    (λ t. let h = rw t at g in never (cc))
    (λ t. leb-false k (level_of op) t)

-- where one follows, it is of that level
tight : (k : ℕ) (o : Option Operator) (op : Operator) → tight_enough k o ≡ Some op → (o ≡ Some op) × (k ≤ level_of op)
tight k (Some p) op e =
    by_test (leb k (level_of p))
    (λ t. let h = rw t at e in let q : p ≡ op = cc in (h, rw (← q) (leb-true k (level_of p) t)))
    (λ t. let h = rw t at e in never (cc))
tight k None op e = never (cc)

-- ---- a formula of a level was read, and none of its operators follows
abbrev Full : ℕ → Reading → Type 0
Full k bad = Unit {0}
Full k (good f u) = Levelled k f × (tight_operator k u.token ≡ None)

-- a part of one was read, which can stand at the left of an operator that follows
abbrev Partly : ℕ → Reading → Type 0
Partly k bad = Unit {0}
Partly k (good f u) = Levelled k f × ((op : Operator) → operator_of u.token ≡ Some op → Levelled (level_of op) f)

minus_partly : (k : ℕ) (x : Reading) → k ≤ minus_level → Partly tightest x → Partly k (mapped minus x)
unfolding Levelled
minus_partly k bad h w = tt
minus_partly k (good f u) h w = ((h, w.0), λ op e. (omega (arith, level_small op), w.0))

complement_partly : (k : ℕ) (x : Reading) → k ≤ not_level → Full not_level x → Partly k (mapped complement x)
unfolding Levelled
complement_partly k bad h w = tt
complement_partly k (good f u) h w =
    ((h, w.0), λ op e. (omega (arith, looser not_level (operator_of u.token) op w.1 e), w.0))

joined_partly : (k : ℕ) (op : Operator) (f : Formula) (x : Reading) → k ≤ level_of op → Levelled (level_of op) f
    → Full (right_level op) x → Partly k (mapped (two_sided op f) x)
unfolding Levelled
joined_partly k op f bad h l w = tt
joined_partly k op f (good g u) h l w =
    let r : Levelled (suc (level_of op)) g = rw add-one at w.0 in
    ((h, l, r), λ next e. (omega (arith, looser (right_level op) (operator_of u.token) next w.1 e), l, r))

closed_partly : (k : ℕ) (s : List ℕ) (x : Reading) → Full 0 x → Partly k (closed s x)
unfolding Levelled
closed_partly k s bad w = tt
closed_partly k s (good f u) w =
    by_test (is_symbol Close u.token) (λ e. rw e (w.0, λ op o. w.0)) (λ e. rw e tt)

called_partly : (k : ℕ) (f : Function) (a : Arguments) (u : Scanned) → AllLevelled a → Partly k (called f a u)
unfolding Levelled
called_partly k f a u w = by_test (takes f (count_of a)) (λ e. rw e ((e, w), λ op o. (e, w))) (λ e. rw e tt)

-- ---- reading

mutual
  unfolding formula_at Levelled

  formula_full : (n : ℕ) (s : List ℕ) (level : ℕ) (t : Scanned) → Full level (formula_at n s level t)
  formula_full zero s level t = tt
  formula_full (suc n) s level t =
      climb_full n s level (operand_at n s level t.token t.next) (operand_partly n s level t.token t.next)

  climb_full : (n : ℕ) (s : List ℕ) (level : ℕ) (x : Reading) → Partly level x → Full level (climb_at n s level x)
  climb_full zero s level x w = tt
  climb_full (suc n) s level bad w = tt
  climb_full (suc n) s level (good f u) w =
      by_found (tight_operator level u.token)
      (λ op e.
      let o = tight level (operator_of u.token) op e in
      let y = formula_at n s (right_level op) (after s u) in
      rw e (climb_full n s level (mapped (two_sided op f) y)
      (joined_partly level op f y o.1 (w.1 op o.0) (formula_full n s (right_level op) (after s u)))))
      (λ e. rw e (w.0, e))

  operand_partly : (n : ℕ) (s : List ℕ) (level : ℕ) (token : Token) (next : Place) → Partly level (operand_at n s level token next)
  operand_partly zero s level token next = tt
  operand_partly (suc n) s level (Number v) next = (tt, λ op e. tt)
  operand_partly (suc n) s level (Hexadecimal v) next = (tt, λ op e. tt)
  operand_partly (suc n) s level (Named v) next = (tt, λ op e. tt)
  operand_partly (suc n) s level (Quoted q) next = (tt, λ op e. tt)
  operand_partly (suc n) s level (Symbol Open) next =
      closed_partly level s (formula_at n s 0 (token_at s next)) (formula_full n s 0 (token_at s next))
  operand_partly (suc n) s level (Symbol Close) next = tt
  operand_partly (suc n) s level (Symbol Comma) next = tt
  operand_partly (suc n) s level (Symbol Semicolon) next = tt
  operand_partly (suc n) s level (Symbol Colon) next = tt
  operand_partly (suc n) s level (Symbol Question) next = tt
  operand_partly (suc n) s level (Symbol Equal) next = tt
  operand_partly (suc n) s level (Symbol Minus) next =
      let u = token_at s next in
      by_test (minus_stands level)
      (λ e. rw e (minus_partly level (operand_at n s tightest u.token u.next) (leb-true level minus_level e)
      (operand_partly n s tightest u.token u.next)))
      (λ e. rw e tt)
  operand_partly (suc n) s level Not next =
      by_test (not_stands level)
      (λ e. rw e (complement_partly level (formula_at n s not_level (token_at s next)) (leb-true level not_level e)
      (formula_full n s not_level (token_at s next))))
      (λ e. rw e tt)
  operand_partly (suc n) s level (Call f) next =
      let u = token_at s next in
      by_test (is_symbol Open u.token)
      (λ e. rw e (arguments_partly n s level f none (formula_at n s 0 (after s u)) tt (formula_full n s 0 (after s u))))
      (λ e. rw e tt)
  operand_partly (suc n) s level EndOfLine next = tt
  operand_partly (suc n) s level (Keyword v) next = tt
  operand_partly (suc n) s level (Infix op) next = tt
  operand_partly (suc n) s level (LineOnly v) next = tt
  operand_partly (suc n) s level Unreadable next = tt

  arguments_partly : (n : ℕ) (s : List ℕ) (level : ℕ) (f : Function) (a : Arguments) (x : Reading) → AllLevelled a → Full 0 x
      → Partly level (arguments_at n s f a x)
  arguments_partly zero s level f a x l w = tt
  arguments_partly (suc n) s level f a bad l w = tt
  arguments_partly (suc n) s level f a (good x u) l w =
      by_test (is_symbol Comma u.token)
      (λ e. rw e (arguments_partly n s level f (also a x) (formula_at n s 0 (after s u)) (l, w.0) (formula_full n s 0 (after s u))))
      λ e. rw e (by_test (is_symbol Close u.token)
      (λ g. rw g (called_partly level f (also a x) (after s u) (l, w.0)))
      (λ g. rw g tt))

pub levelled : (n : ℕ) (s : List ℕ) (level : ℕ) (t : Scanned) {f : Formula} {u : Scanned} → formula_at n s level t ≡ good f u
    → Levelled level f
levelled n s level t {f} {u} e =
    let h : Levelled level f × (tight_operator level u.token ≡ None) = rw e at (formula_full n s level t) in
    h.0

-- and none of its operators follows
pub formula_ends : (s : List ℕ) (level : ℕ) (t : Scanned) {f : Formula} {u : Scanned} → formula_in s level t ≡ good f u
    → tight_operator level u.token ≡ None
unfolding formula_in
formula_ends s level t {f} {u} e =
    let h : Levelled level f × (tight_operator level u.token ≡ None) = rw e at (formula_full (enough s) s level t) in
    h.1
