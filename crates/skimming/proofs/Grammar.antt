-- What a formula that reads leaves of its line: less than it began with.
use Rattle.std.specs.Prelude.{None, Option, Some}
use mathlib.Core.Path.{◌≡◌, refl}
use mathlib.Core.Bool.{true}
use mathlib.Core.List.{List}
use Prim.Native.Nat.{ℕ, zero, suc, ◌+◌, ◌≤◌, ◌<◌}
use native.Mathlib.Omega.{arith}
use Rattle.whole.specs.declared.arithmetic.Operator.{Operator}
use Rattle.words.specs.declared.places.Place.{Place}
use Rattle.words.specs.declared.symbols.Function.{Function}
use Rattle.words.specs.declared.symbols.Scanned.{Scanned}
use Rattle.words.specs.declared.symbols.Sign.TheVariants.{Open, Close, Comma, Semicolon, Colon, Question, Equal, Minus}
use Rattle.words.specs.declared.symbols.Token.{Token}
use Rattle.words.specs.declared.symbols.Token.TheVariants.{EndOfLine, Keyword, Not, Infix, Call, Named, Number, Hexadecimal, LineOnly, Quoted, Symbol, Unreadable}
use Rattle.words.proofs.Choices.{by_test}
use Rattle.scanner.specs.Tokens.{reads}
use Rattle.grammar.specs.Tests.{is_symbol}
use Rattle.grammar.specs.Trees.{Formula, minus, complement, two_sided, Arguments, none, also}
use Rattle.grammar.specs.Functions.{takes}
use Rattle.grammar.specs.Formulas.{not_level, tightest, right_level, minus_stands, not_stands, tight_operator, Reading, bad, good, mapped, after, closed, count_of, called, formula_at, climb_at, operand_at, arguments_at, enough, formula_of}
use Rattle.skimming.specs.bridge.Remaining.{weight}
use Rattle.skimming.proofs.Weights.{symbol_reads, operator_reads, after_lighter}

-- ---- tokens that read

-- what weighs something reads
pub weighs_reads : (s : List ℕ) (t : Scanned) → 0 < weight s t → reads t.token ≡ true
unfolding weight
weighs_reads s t w = by_test (reads t.token) (λ h. h) (λ h. absurd (omega (arith, rw h at w)))

pub by_found : {P : Type 0} (o : Option Operator) → ((op : Operator) → o ≡ Some op → P) → (o ≡ None → P) → P
by_found (Some op) y n = y op refl
by_found None y n = n refl

-- ---- what follows a formula weighs four less than a bound

abbrev pub Lighter : List ℕ → ℕ → Reading → Type 0
Lighter s w bad = Unit {0}
Lighter s w (good f u) = weight s u + 4 ≤ w

lighter_still : (s : List ℕ) (v w : ℕ) (x : Reading) → v ≤ w → Lighter s v x → Lighter s w x
lighter_still s v w bad h l = tt
lighter_still s v w (good f u) h l = omega arith

mapped_lighter : (s : List ℕ) (w : ℕ) (make : Formula → Formula) (x : Reading) → Lighter s w x → Lighter s w (mapped make x)
mapped_lighter s w make bad l = tt
mapped_lighter s w make (good f u) l = l

pub closed_lighter : (s : List ℕ) (w : ℕ) (x : Reading) → Lighter s w x → Lighter s w (closed s x)
closed_lighter s w bad l = tt
closed_lighter s w (good f u) l =
    by_test (is_symbol Close u.token)
    (λ e. let h = after_lighter s u (symbol_reads Close u.token e) in rw e (omega arith))
    (λ e. rw e tt)

called_lighter : (s : List ℕ) (w : ℕ) (f : Function) (a : Arguments) (u : Scanned) → weight s u + 4 ≤ w → Lighter s w (called f a u)
called_lighter s w f a u l = by_test (takes f (count_of a)) (λ e. rw e l) (λ e. rw e tt)

mutual
  unfolding formula_at

  pub formula_lightens : (n : ℕ) (s : List ℕ) (level : ℕ) (t : Scanned) → Lighter s (weight s t) (formula_at n s level t)
  formula_lightens zero s level t = tt
  formula_lightens (suc n) s level t =
      climb_lightens n s level (weight s t) (operand_at n s level t.token t.next) (operand_lightens n s level t.token t.next)

  pub climb_lightens : (n : ℕ) (s : List ℕ) (level w : ℕ) (x : Reading) → Lighter s w x → Lighter s w (climb_at n s level x)
  climb_lightens zero s level w x l = tt
  climb_lightens (suc n) s level w bad l = tt
  climb_lightens (suc n) s level w (good f u) l =
      by_found (tight_operator level u.token)
      (λ op e.
      let h = after_lighter s u (operator_reads level u.token e) in
      let y = formula_at n s (right_level op) (after s u) in
      rw e (climb_lightens n s level w (mapped (two_sided op f) y)
      (mapped_lighter s w (two_sided op f) y
      (lighter_still s (weight s (after s u)) w y (omega arith) (formula_lightens n s (right_level op) (after s u))))))
      (λ e. rw e l)

  pub operand_lightens : (n : ℕ) (s : List ℕ) (level : ℕ) (token : Token) (next : Place)
      → Lighter s (weight s (record { token = token; next = next })) (operand_at n s level token next)
  operand_lightens zero s level token next = tt
  operand_lightens (suc n) s level (Number v) next = after_lighter s (record { token = Number v; next = next }) refl
  operand_lightens (suc n) s level (Hexadecimal v) next = after_lighter s (record { token = Hexadecimal v; next = next }) refl
  operand_lightens (suc n) s level (Named v) next = after_lighter s (record { token = Named v; next = next }) refl
  operand_lightens (suc n) s level (Quoted q) next = after_lighter s (record { token = Quoted q; next = next }) refl
  operand_lightens (suc n) s level (Symbol Open) next =
      let t : Scanned = record { token = Symbol Open; next = next } in
      let h = after_lighter s t refl in
      let y = formula_at n s 0 (after s t) in
      closed_lighter s (weight s t) y
      (lighter_still s (weight s (after s t)) (weight s t) y (omega arith) (formula_lightens n s 0 (after s t)))
  operand_lightens (suc n) s level (Symbol Close) next = tt
  operand_lightens (suc n) s level (Symbol Comma) next = tt
  operand_lightens (suc n) s level (Symbol Semicolon) next = tt
  operand_lightens (suc n) s level (Symbol Colon) next = tt
  operand_lightens (suc n) s level (Symbol Question) next = tt
  operand_lightens (suc n) s level (Symbol Equal) next = tt
  operand_lightens (suc n) s level (Symbol Minus) next =
      let t : Scanned = record { token = Symbol Minus; next = next } in
      let u = after s t in
      let h = after_lighter s t refl in
      let y = operand_at n s tightest u.token u.next in
      by_test (minus_stands level)
      (λ e. rw e (mapped_lighter s (weight s t) minus y
      (lighter_still s (weight s u) (weight s t) y (omega arith) (operand_lightens n s tightest u.token u.next))))
      (λ e. rw e tt)
  operand_lightens (suc n) s level Not next =
      let t : Scanned = record { token = Not; next = next } in
      let h = after_lighter s t refl in
      let y = formula_at n s not_level (after s t) in
      by_test (not_stands level)
      (λ e. rw e (mapped_lighter s (weight s t) complement y
      (lighter_still s (weight s (after s t)) (weight s t) y (omega arith) (formula_lightens n s not_level (after s t)))))
      (λ e. rw e tt)
  operand_lightens (suc n) s level (Call f) next =
      let t : Scanned = record { token = Call f; next = next } in
      let u = after s t in
      let h = after_lighter s t refl in
      let y = formula_at n s 0 (after s u) in
      by_test (is_symbol Open u.token)
      (λ e.
      let g = after_lighter s u (symbol_reads Open u.token e) in
      rw e (arguments_lightens n s (weight s t) f none y
      (lighter_still s (weight s (after s u)) (weight s t) y (omega arith) (formula_lightens n s 0 (after s u)))))
      (λ e. rw e tt)
  operand_lightens (suc n) s level EndOfLine next = tt
  operand_lightens (suc n) s level (Keyword v) next = tt
  operand_lightens (suc n) s level (Infix op) next = tt
  operand_lightens (suc n) s level (LineOnly v) next = tt
  operand_lightens (suc n) s level Unreadable next = tt

  pub arguments_lightens : (n : ℕ) (s : List ℕ) (w : ℕ) (f : Function) (a : Arguments) (x : Reading) → Lighter s w x
      → Lighter s w (arguments_at n s f a x)
  arguments_lightens zero s w f a x l = tt
  arguments_lightens (suc n) s w f a bad l = tt
  arguments_lightens (suc n) s w f a (good x u) l =
      by_test (is_symbol Comma u.token)
      (λ e.
      let h = after_lighter s u (symbol_reads Comma u.token e) in
      let y = formula_at n s 0 (after s u) in
      rw e (arguments_lightens n s w f (also a x) y
      (lighter_still s (weight s (after s u)) w y (omega arith) (formula_lightens n s 0 (after s u)))))
      λ e. rw e (by_test (is_symbol Close u.token)
      (λ g.
      let h = after_lighter s u (symbol_reads Close u.token g) in
      rw g (called_lighter s w f (also a x) (after s u) (omega arith)))
      (λ g. rw g tt))

-- a formula that reads begins with a token that reads, and what follows it weighs less
pub formula_lighter : (s : List ℕ) (t : Scanned) {f : Formula} {u : Scanned} → formula_of s t ≡ good f u
    → (reads t.token ≡ true) × (weight s u + 4 ≤ weight s t)
unfolding formula_of
formula_lighter s t {f} {u} e =
    let h : weight s u + 4 ≤ weight s t = rw e at (formula_lightens (enough s) s 0 t) in
    (weighs_reads s t (omega arith), h)
