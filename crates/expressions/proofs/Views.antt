-- Formulas that read, taken apart into their tokens.
use Rattle.std.specs.Prelude.{None, Some}
use mathlib.Core.Path.{◌≡◌, refl, sym, ◌∙◌}
use mathlib.Core.Bool.{Bool, true, false}
use mathlib.Core.List.{List}
use Prim.Native.Nat.{ℕ}
use Rattle.whole.specs.declared.arithmetic.Operator.{Operator}
use Rattle.whole.proofs.Never.{never}
use Rattle.words.specs.declared.symbols.Function.{Function}
use Rattle.words.specs.declared.symbols.Scanned.{Scanned}
use Rattle.words.specs.declared.symbols.Sign.TheVariants.{Open, Close, Comma, Minus}
use Rattle.words.specs.declared.symbols.Token.TheVariants.{Not, Call, Symbol}
use Rattle.words.proofs.Choices.{by_test}
use Rattle.grammar.specs.Tests.{choose, is_symbol}
use Rattle.grammar.specs.Trees.{Formula, inside, minus, complement, two_sided, call, Arguments, none, also}
use Rattle.grammar.specs.Functions.{takes}
use Rattle.grammar.specs.Formulas as formulas
use Rattle.grammar.specs.Formulas.{not_level, tightest, right_level, minus_stands, not_stands, tight_operator, Reading, good, mapped, after, closed, count_of, called}
use Rattle.skimming.specs.bridge.Remaining.{formula_in, climb_of, operand_of, arguments_of}
use Rattle.skimming.proofs.Fuel.{operand_is, formula_unrolled, climb_unrolled, arguments_unrolled, climb_bad, arguments_bad}

-- ---- formulas

-- a test that must hold
so : (test : Bool) (go : Unit {0} → Reading) {f : Formula} {u : Scanned} → choose test go (λ _. formulas.bad) ≡ good f u
    → (test ≡ true) × (go tt ≡ good f u)
so true go e = (refl, e)
so false go e = never (cc)

-- a formula of one formula
pub record Made (make : Formula → Formula) (x : Reading) (f : Formula) (u : Scanned) : Type 0 where
  pub of : Formula
  pub is : f ≡ make of
  pub from : x ≡ good of u

pub made : (make : Formula → Formula) (x : Reading) {f : Formula} {u : Scanned} → mapped make x ≡ good f u → Made make x f u
made make formulas.bad e = never (cc)
made make (formulas.good g v) e = record { of = g; is = cc; from = cc }

-- a formula in parentheses
pub record Closed (s : List ℕ) (x : Reading) (f : Formula) (u : Scanned) : Type 0 where
  pub of : Formula
  pub at : Scanned
  pub is : f ≡ inside of
  pub from : x ≡ good of at
  pub close : is_symbol Close at.token ≡ true
  pub next : u ≡ after s at

pub closed_view : (s : List ℕ) (x : Reading) {f : Formula} {u : Scanned} → closed s x ≡ good f u → Closed s x f u
closed_view s formulas.bad e = never (cc)
closed_view s (formulas.good g v) e =
    by_test (is_symbol Close v.token)
    (λ c. let h = rw c at e in record { of = g; at = v; is = cc; from = refl; close = c; next = cc })
    (λ c. let h = rw c at e in never (cc))

-- a function with its arguments
pub record Applied (f : Function) (a : Arguments) (t : Scanned) (g : Formula) (u : Scanned) : Type 0 where
  pub takes_them : takes f (count_of a) ≡ true
  pub is : g ≡ call f a
  pub next : u ≡ t

pub applied_view : (f : Function) (a : Arguments) (t : Scanned) {g : Formula} {u : Scanned} → called f a t ≡ good g u → Applied f a t g u
applied_view f a t e =
    by_test (takes f (count_of a))
    (λ c. let h = rw c at e in record { takes_them = c; is = cc; next = cc })
    (λ c. let h = rw c at e in never (cc))

-- ---- the same, of formulas that read

module _ (s : List ℕ) where
  -- a formula's operand, and what climbing makes of it
  pub record Climbed (level : ℕ) (x : Reading) (f : Formula) (u : Scanned) : Type 0 where
    pub of : Formula
    pub at : Scanned
    pub from : x ≡ good of at
    pub climbs : climb_of s level (good of at) ≡ good f u

  pub climb_view : (level : ℕ) (x : Reading) {f : Formula} {u : Scanned} → climb_of s level x ≡ good f u → Climbed level x f u
  climb_view level formulas.bad e = let h = climb_bad s level in never (cc)
  climb_view level (formulas.good g v) e = record { of = g; at = v; from = refl; climbs = e }

  pub formula_view : (level : ℕ) (t : Scanned) {f : Formula} {u : Scanned} → formula_in s level t ≡ good f u
      → Climbed level (operand_of s level t) f u
  formula_view level t e = climb_view level (operand_of s level t) (rw (formula_unrolled s level t) at e)

  -- no operator follows
  pub climb_stops : (level : ℕ) (f : Formula) (t : Scanned) → tight_operator level t.token ≡ None → climb_of s level (good f t) ≡ good f t
  climb_stops level f t o = rw (climb_unrolled s level f t, o)

  -- an operator follows, and its right side
  pub climb_goes : (level : ℕ) (f : Formula) (t : Scanned) {op : Operator} {g : Formula} {u : Scanned}
      → tight_operator level t.token ≡ Some op → climb_of s level (good f t) ≡ good g u
      → Climbed level (mapped (two_sided op f) (formula_in s (right_level op) (after s t))) g u
  climb_goes level f t {op} o e =
      climb_view level (mapped (two_sided op f) (formula_in s (right_level op) (after s t)))
      (rw (climb_unrolled s level f t, o) at e)

  -- one more argument, and what the list makes of it
  pub record Listed (f : Function) (a : Arguments) (x : Reading) (g : Formula) (u : Scanned) : Type 0 where
    pub of : Formula
    pub at : Scanned
    pub from : x ≡ good of at
    pub lists : arguments_of s f a (good of at) ≡ good g u

  pub list_view : (f : Function) (a : Arguments) (x : Reading) {g : Formula} {u : Scanned} → arguments_of s f a x ≡ good g u
      → Listed f a x g u
  list_view f a formulas.bad e = let h = arguments_bad s f a in never (cc)
  list_view f a (formulas.good x v) e = record { of = x; at = v; from = refl; lists = e }

  pub list_goes : (f : Function) (a : Arguments) (x : Formula) (t : Scanned) {g : Formula} {u : Scanned}
      → is_symbol Comma t.token ≡ true → arguments_of s f a (good x t) ≡ good g u
      → Listed f (also a x) (formula_in s 0 (after s t)) g u
  list_goes f a x t o e = list_view f (also a x) (formula_in s 0 (after s t)) (rw (arguments_unrolled s f a x t, o) at e)

  -- the last argument: a closing parenthesis follows
  pub record Finished (f : Function) (a : Arguments) (t : Scanned) (g : Formula) (u : Scanned) : Type 0 where
    pub close : is_symbol Close t.token ≡ true
    pub applied : Applied f a (after s t) g u

  pub list_ends : (f : Function) (a : Arguments) (x : Formula) (t : Scanned) {g : Formula} {u : Scanned}
      → is_symbol Comma t.token ≡ false → arguments_of s f a (good x t) ≡ good g u → Finished f (also a x) t g u
  list_ends f a x t o e =
      let h = rw (arguments_unrolled s f a x t, o) at e in
      by_test (is_symbol Close t.token)
      (λ c. record { close = c; applied = applied_view f (also a x) (after s t) (rw c at h) })
      (λ c. let j = rw c at h in never (cc))

  -- ---- an operand, by its first token

  module _ (level : ℕ) (t : Scanned) {f : Formula} {u : Scanned} (e : operand_of s level t ≡ good f u) where
    pub opened_view : t.token ≡ Symbol Open → Closed s (formula_in s 0 (after s t)) f u
    opened_view w = closed_view s (formula_in s 0 (after s t)) (sym (operand_is s level t w) ∙ e)

    pub negated_view : t.token ≡ Symbol Minus → (minus_stands level ≡ true) × Made minus (operand_of s tightest (after s t)) f u
    negated_view w =
        let h = so (minus_stands level) (λ _. mapped minus (operand_of s tightest (after s t))) (sym (operand_is s level t w) ∙ e) in
        (h.0, made minus (operand_of s tightest (after s t)) h.1)

    pub complemented_view : t.token ≡ Not → (not_stands level ≡ true) × Made complement (formula_in s not_level (after s t)) f u
    complemented_view w =
        let h = so (not_stands level) (λ _. mapped complement (formula_in s not_level (after s t))) (sym (operand_is s level t w) ∙ e) in
        (h.0, made complement (formula_in s not_level (after s t)) h.1)

    pub call_view : (g : Function) → t.token ≡ Call g
        → (is_symbol Open (after s t).token ≡ true) × Listed g none (formula_in s 0 (after s (after s t))) f u
    call_view g w =
        let x = formula_in s 0 (after s (after s t)) in
        let h = so (is_symbol Open (after s t).token) (λ _. arguments_of s g none x) (sym (operand_is s level t w) ∙ e) in
        (h.0, list_view g none x h.1)
