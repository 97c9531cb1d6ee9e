-- Formulas without their bound: every bound above what is left to read gives the same, and no line goes as deep as `enough` lets it.
use mathlib.Core.Path.{◌≡◌, refl, ◌∙◌, ap}
use mathlib.Core.List.{List}
use Prim.Native.Nat.{ℕ, zero, suc, ◌+◌, ◌≤◌, ◌<◌}
use native.Mathlib.Omega.{arith}
use Rattle.words.specs.Names.{name_bytes, telling_of}
use Rattle.words.specs.declared.places.Place.{Place}
use Rattle.words.specs.declared.symbols.Function.{Function}
use Rattle.words.specs.declared.symbols.Scanned.{Scanned}
use Rattle.words.specs.declared.symbols.Sign.TheVariants.{Open, Close, Comma, Semicolon, Colon, Question, Equal, Minus}
use Rattle.words.specs.declared.symbols.Token.{Token}
use Rattle.words.specs.declared.symbols.Token.TheVariants.{EndOfLine, Keyword, Not, Infix, Call, Named, Number, Hexadecimal, LineOnly, Quoted, Symbol, Unreadable}
use Rattle.words.proofs.Choices.{by_test}
use Rattle.scanner.specs.Tokens.{token_at}
use Rattle.grammar.specs.Tests.{choose, is_symbol}
use Rattle.grammar.specs.Trees.{Formula, number, variable, text, minus, complement, two_sided, Arguments, none, also}
use Rattle.grammar.specs.Formulas.{not_level, tightest, right_level, minus_stands, not_stands, tight_operator, Reading, bad, good, mapped, after, closed, called, quoted_bytes, by_sign, by_operator, enough, formula_at, climb_at, operand_at, arguments_at, formula_of}
use Rattle.skimming.specs.bridge.Remaining.{weight, formula_in, climb_of, operand_of, arguments_of}
use Rattle.skimming.proofs.Weights.{symbol_reads, operator_reads, after_lighter, weight-enough}
use Rattle.skimming.proofs.Grammar.{by_found, Lighter, formula_lightens, operand_lightens}

-- ---- what is left to read behind a formula

abbrev pub rest : List ℕ → Reading → ℕ
rest s bad = 0
rest s (good f u) = weight s u

rest_lighter : (s : List ℕ) (w : ℕ) (x : Reading) → Lighter s w x → rest s x ≤ w
rest_lighter s w bad l = omega arith
rest_lighter s w (good f u) l = omega arith

rest-mapped : (s : List ℕ) (make : Formula → Formula) (x : Reading) → rest s (mapped make x) ≡ rest s x
rest-mapped s make bad = refl
rest-mapped s make (good f u) = refl

formula_rest : (n : ℕ) (s : List ℕ) (level : ℕ) (t : Scanned) → rest s (formula_at n s level t) ≤ weight s t
formula_rest n s level t = rest_lighter s (weight s t) (formula_at n s level t) (formula_lightens n s level t)

-- ---- two bounds above it

mutual
  unfolding formula_at

  pub formula_same : (n m : ℕ) (s : List ℕ) (level : ℕ) (t : Scanned) → weight s t + 2 < n → weight s t + 2 < m
      → formula_at n s level t ≡ formula_at m s level t
  formula_same zero m s level t h k = absurd (omega arith)
  formula_same (suc n) zero s level t h k = absurd (omega arith)
  formula_same (suc n) (suc m) s level t h k =
      let x = operand_at m s level t.token t.next in
      let l : rest s x ≤ weight s t = rest_lighter s (weight s t) x (operand_lightens m s level t.token t.next) in
      ap (climb_at n s level) (operand_same n m s level t.token t.next (omega arith) (omega arith))
      ∙ climb_same n m s level x (omega arith) (omega arith)

  pub climb_same : (n m : ℕ) (s : List ℕ) (level : ℕ) (x : Reading) → rest s x < n → rest s x < m
      → climb_at n s level x ≡ climb_at m s level x
  climb_same zero m s level x h k = absurd (omega arith)
  climb_same (suc n) zero s level x h k = absurd (omega arith)
  climb_same (suc n) (suc m) s level bad h k = refl
  climb_same (suc n) (suc m) s level (good f u) h k =
      by_found (tight_operator level u.token)
      (λ op e.
      let g = after_lighter s u (operator_reads level u.token e) in
      let y = formula_at m s (right_level op) (after s u) in
      let l = formula_rest m s (right_level op) (after s u) in
      let j = rest-mapped s (two_sided op f) y in
      rw e
      (ap (λ x. climb_at n s level (mapped (two_sided op f) x))
      (formula_same n m s (right_level op) (after s u) (omega arith) (omega arith))
      ∙ climb_same n m s level (mapped (two_sided op f) y) (omega arith) (omega arith)))
      (λ e. rw e)

  pub operand_same : (n m : ℕ) (s : List ℕ) (level : ℕ) (token : Token) (next : Place)
      → weight s (record { token = token; next = next }) + 1 < n → weight s (record { token = token; next = next }) + 1 < m
      → operand_at n s level token next ≡ operand_at m s level token next
  operand_same zero m s level token next h k = absurd (omega arith)
  operand_same (suc n) zero s level token next h k = absurd (omega arith)
  operand_same (suc n) (suc m) s level (Number v) next h k = refl
  operand_same (suc n) (suc m) s level (Hexadecimal v) next h k = refl
  operand_same (suc n) (suc m) s level (Named v) next h k = refl
  operand_same (suc n) (suc m) s level (Quoted q) next h k = refl
  operand_same (suc n) (suc m) s level (Symbol Open) next h k =
      let g = after_lighter s (record { token = Symbol Open; next = next }) refl in
      ap (closed s) (formula_same n m s 0 (token_at s next) (omega arith) (omega arith))
  operand_same (suc n) (suc m) s level (Symbol Close) next h k = refl
  operand_same (suc n) (suc m) s level (Symbol Comma) next h k = refl
  operand_same (suc n) (suc m) s level (Symbol Semicolon) next h k = refl
  operand_same (suc n) (suc m) s level (Symbol Colon) next h k = refl
  operand_same (suc n) (suc m) s level (Symbol Question) next h k = refl
  operand_same (suc n) (suc m) s level (Symbol Equal) next h k = refl
  operand_same (suc n) (suc m) s level (Symbol Minus) next h k =
      let g = after_lighter s (record { token = Symbol Minus; next = next }) refl in
      let u = token_at s next in
      rw (operand_same n m s tightest u.token u.next (omega arith) (omega arith))
  operand_same (suc n) (suc m) s level Not next h k =
      let g = after_lighter s (record { token = Not; next = next }) refl in
      rw (formula_same n m s not_level (token_at s next) (omega arith) (omega arith))
  operand_same (suc n) (suc m) s level (Call f) next h k =
      let g = after_lighter s (record { token = Call f; next = next }) refl in
      let u = token_at s next in
      let y = formula_at m s 0 (after s u) in
      let l = formula_rest m s 0 (after s u) in
      by_test (is_symbol Open u.token)
      (λ e.
      let j = after_lighter s u (symbol_reads Open u.token e) in
      rw e
      (ap (arguments_at n s f none) (formula_same n m s 0 (after s u) (omega arith) (omega arith))
      ∙ arguments_same n m s f none y (omega arith) (omega arith)))
      (λ e. rw e)
  operand_same (suc n) (suc m) s level EndOfLine next h k = refl
  operand_same (suc n) (suc m) s level (Keyword v) next h k = refl
  operand_same (suc n) (suc m) s level (Infix op) next h k = refl
  operand_same (suc n) (suc m) s level (LineOnly v) next h k = refl
  operand_same (suc n) (suc m) s level Unreadable next h k = refl

  pub arguments_same : (n m : ℕ) (s : List ℕ) (f : Function) (a : Arguments) (x : Reading) → rest s x < n → rest s x < m
      → arguments_at n s f a x ≡ arguments_at m s f a x
  arguments_same zero m s f a x h k = absurd (omega arith)
  arguments_same (suc n) zero s f a x h k = absurd (omega arith)
  arguments_same (suc n) (suc m) s f a bad h k = refl
  arguments_same (suc n) (suc m) s f a (good x u) h k =
      by_test (is_symbol Comma u.token)
      (λ e.
      let g = after_lighter s u (symbol_reads Comma u.token e) in
      let l = formula_rest m s 0 (after s u) in
      rw e
      (ap (arguments_at n s f (also a x)) (formula_same n m s 0 (after s u) (omega arith) (omega arith))
      ∙ arguments_same n m s f (also a x) (formula_at m s 0 (after s u)) (omega arith) (omega arith)))
      (λ e. rw e)

-- ---- the grammar of a line, one level at a time

module _ (s : List ℕ) where
  -- an operand by its first token, with what follows that
  abbrev pub operand_by : ℕ → Token → Scanned → Reading
  operand_by level (Number w) u = good (number w) u
  operand_by level (Hexadecimal w) u = good (number w) u
  operand_by level (Named v) u = good (variable v.kind (telling_of (name_bytes s v))) u
  operand_by level (Quoted q) u = good (text (quoted_bytes s q)) u
  operand_by level (Symbol sign) u =
      by_sign sign
      (λ _. closed s (formula_in s 0 u))
      (λ _. choose (minus_stands level) (λ _. mapped minus (operand_of s tightest u)) (λ _. bad))
  operand_by level Not u = choose (not_stands level) (λ _. mapped complement (formula_in s not_level u)) (λ _. bad)
  operand_by level (Call f) u =
      choose (is_symbol Open u.token) (λ _. arguments_of s f none (formula_in s 0 (after s u))) (λ _. bad)
  operand_by level EndOfLine u = bad
  operand_by level (Keyword w) u = bad
  operand_by level (Infix op) u = bad
  operand_by level (LineOnly l) u = bad
  operand_by level Unreadable u = bad

  operand_by_lem : (level : ℕ) (token : Token) (next : Place)
      → operand_at (suc (enough s)) s level token next ≡ operand_by level token (token_at s next)
  unfolding formula_at formula_in operand_of arguments_of
  operand_by_lem level EndOfLine next = refl
  operand_by_lem level (Keyword w) next = refl
  operand_by_lem level Not next = refl
  operand_by_lem level (Infix op) next = refl
  operand_by_lem level (Call f) next = refl
  operand_by_lem level (Named v) next = refl
  operand_by_lem level (Number n) next = refl
  operand_by_lem level (Hexadecimal n) next = refl
  operand_by_lem level (LineOnly l) next = refl
  operand_by_lem level (Quoted q) next = refl
  operand_by_lem level (Symbol sign) next = refl
  operand_by_lem level Unreadable next = refl

  pub formula_level : (t : Scanned) → formula_of s t ≡ formula_in s 0 t
  unfolding formula_of formula_in
  formula_level t = refl

  pub formula_unrolled : (level : ℕ) (t : Scanned) → formula_in s level t ≡ climb_of s level (operand_of s level t)
  unfolding formula_at formula_in climb_of operand_of
  formula_unrolled level t =
      let w = weight-enough s t in formula_same (enough s) (suc (enough s)) s level t (omega arith) (omega arith)

  pub operand_unrolled : (level : ℕ) (t : Scanned) → operand_of s level t ≡ operand_by level t.token (after s t)
  unfolding operand_of
  operand_unrolled level t =
      let w = weight-enough s t in
      operand_same (enough s) (suc (enough s)) s level t.token t.next (omega arith) (omega arith)
      ∙ operand_by_lem level t.token t.next

  pub operand_is : (level : ℕ) (t : Scanned) {token : Token} → t.token ≡ token → operand_of s level t ≡ operand_by level token (after s t)
  operand_is level t e = operand_unrolled level t ∙ ap (λ x. operand_by level x (after s t)) e

  pub climb_unrolled : (level : ℕ) (f : Formula) (t : Scanned)
      → climb_of s level (good f t)
      ≡ by_operator (tight_operator level t.token)
      (λ op. climb_of s level (mapped (two_sided op f) (formula_in s (right_level op) (after s t))))
      (good f t)
  unfolding formula_at formula_in climb_of
  climb_unrolled level f t =
      let w = weight-enough s t in climb_same (enough s) (suc (enough s)) s level (good f t) (omega arith) (omega arith)

  pub arguments_unrolled : (f : Function) (a : Arguments) (x : Formula) (t : Scanned)
      → arguments_of s f a (good x t)
      ≡ choose (is_symbol Comma t.token) (λ _. arguments_of s f (also a x) (formula_in s 0 (after s t))) λ _.
      choose (is_symbol Close t.token) (λ _. called f (also a x) (after s t)) λ _.
      bad
  unfolding formula_at formula_in arguments_of
  arguments_unrolled f a x t =
      let w = weight-enough s t in
      arguments_same (enough s) (suc (enough s)) s f a (good x t) (omega arith) (omega arith)

  pub climb_bad : (level : ℕ) → climb_of s level bad ≡ bad
  unfolding formula_at climb_of
  climb_bad level = climb_same (enough s) (suc (enough s)) s level bad (omega arith) (omega arith)

  pub arguments_bad : (f : Function) (a : Arguments) → arguments_of s f a bad ≡ bad
  unfolding formula_at arguments_of
  arguments_bad f a = arguments_same (enough s) (suc (enough s)) s f a bad (omega arith) (omega arith)
