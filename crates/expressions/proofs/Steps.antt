-- What each way through a reader answers, from what the readers that it calls answer: over plain values, with no code in sight.
-- Each holds at any fuel that is more than what is left to read.
use mathlib.Core.Path.{◌≡◌, refl, sym, ap, ◌∙◌}
use mathlib.Core.Bool.{true, false}
use mathlib.Core.List.{List, [], ◌∷◌}
use Prim.Native.Nat.{ℕ, zero, suc, ◌+◌, ◌≤◌, ◌<◌}
use native.Mathlib.Omega.{arith}
use borrow.Author.Tests.{lt-ltb}
use lib.Dec.{ltb}
use denote.Enum.Declared.{tag_of}
use types.Run.{OneOf, miss}
use Rattle.whole.specs.declared.arithmetic.Operator.{Operator}
use Rattle.words.specs.declared.names.Name.{Name}
use Rattle.words.specs.declared.places.Place.{Place}
use Rattle.words.specs.declared.symbols.Function.{Function}
use Rattle.words.specs.declared.symbols.Quotation.{Quotation}
use Rattle.words.specs.declared.symbols.Scanned.{Scanned}
use Rattle.words.specs.declared.symbols.Sign.{Sign}
use Rattle.words.specs.declared.symbols.Sign.TheVariants.{Open, Close, Comma, Semicolon, Colon, Question, Equal, Minus}
use Rattle.words.specs.declared.symbols.Token.{Token}
use Rattle.words.specs.declared.symbols.Token.TheVariants as token
use Rattle.scanner.specs.Tokens.{reads}
use Rattle.grammar.specs.Tests.{is_symbol}
use Rattle.grammar.specs.Trees.{Formula, two_sided, Arguments, also, none}
use Rattle.grammar.specs.Formulas.{not_level, tightest, right_level, minus_stands, not_stands, tight_operator, Reading, bad, good, by_sign, mapped, after, formula_at, climb_at, operand_at, arguments_at, enough, formula_of}
use Rattle.skimming.specs.bridge.Flat.{skimmed_of}
use Rattle.expressions.specs.Types.{of_kind, sort_of, depth_of}
use Rattle.skimming.specs.bridge.Remaining.{weight, formula_in, operand_of}
use Rattle.expressions.specs.bridge.Nots.{nots_of}
use Rattle.expressions.specs.bridge.Answers.{sort_in, depth_in, answer_in, answer_of, deep_read, fronted_read, joined_read, closed_read, Kept, call_at, listed_at}
use Rattle.expressions.specs.declared.calls.Sorts.{Sorts}
use Rattle.expressions.specs.declared.calls.Sorts.TheVariants.{Zero}
use Rattle.expressions.specs.declared.readers.FormulaRead.{FormulaRead}
use Rattle.expressions.specs.bridge.Answers.{Good}
use Rattle.std.specs.Prelude.{Option, Some, None}
use Rattle.expressions.specs.declared.sorts.Sort.{Sort}
use Rattle.expressions.specs.declared.sorts.Sort.TheVariants.{Whole, Text}
use Rattle.skimming.proofs.Weights.{operator_reads, after_lighter, weight-enough}
use Rattle.skimming.proofs.Grammar.{Lighter, formula_lightens, operand_lightens}
use Rattle.skimming.proofs.Fuel.{formula_same, operand_same}
use Rattle.expressions.proofs.Answering.{answered, not_read, deep_answer, minus_answer, joined_answer, closed_answer, kept_none}
use Rattle.expressions.proofs.Chains.{behind_lighter, chain_operand, chain_answer}

-- ---- what each reader promises of its answer, where fewer than so many pairs of parentheses may nest

abbrev pub FormulaMet : ℕ → List ℕ → ℕ → Scanned → Option FormulaRead → Type 0
FormulaMet room s level t r = (n : ℕ) → weight s t + 2 < n → r ≡ answer_in room (formula_at n s level t)

abbrev pub OperandMet : ℕ → List ℕ → ℕ → Scanned → Option FormulaRead → Type 0
OperandMet room s level t r = (n : ℕ) → weight s t + 1 < n → r ≡ answer_in room (operand_at n s level t.token t.next)

abbrev pub CallMet : ℕ → List ℕ → Function → Scanned → Option FormulaRead → Type 0
CallMet room s f t r = (n : ℕ) → weight s t + 2 < n → r ≡ answer_in room (call_at n s f t)

-- how much is left to read behind an answer
abbrev pub heft : List ℕ → Option FormulaRead → ℕ
heft s None = 0
heft s (Some r) = weight s r.ahead

-- r is what is read where `left` was
abbrev pub ClimbMet : ℕ → List ℕ → ℕ → Option FormulaRead → Option FormulaRead → Type 0
ClimbMet room s level left r =
    (x : Reading) → left ≡ answer_in room x → (n : ℕ) → heft s left < n → r ≡ answer_in room (climb_at n s level x)

-- r is what is read where these arguments were, and one more; there is room for one pair less inside
abbrev pub ListMet : ℕ → List ℕ → Function → Sorts → ℕ → Option FormulaRead → Option FormulaRead → Type 0
ListMet room s f types depth argument r =
    (a : Arguments) → Kept room types depth a → (x : Reading) → argument ≡ answer_in room x → (n : ℕ) → heft s argument < n
    → r ≡ answer_in (room + 1) (arguments_at n s f a x)

-- the same, where the parenthesis or the comma before that argument stands
abbrev pub NextMet : ℕ → List ℕ → Function → Sorts → ℕ → Scanned → Option FormulaRead → Type 0
NextMet room s f types depth t r =
    (a : Arguments) → Kept room types depth a → (n : ℕ) → weight s t ≤ n
    → r ≡ answer_in (room + 1) (arguments_at n s f a (formula_at n s 0 (after s t)))

-- these arguments are those, and one more
abbrev pub Grown : Sorts → ℕ → Sort → ℕ → Sorts → ℕ → Type 0
Grown types depth k d types' depth' =
    (room : ℕ) (a : Arguments) (f : Formula) → Kept room types depth a → k ≡ sort_in room f → d ≡ depth_in room (depth_of f)
    → Kept room types' depth' (also a f)

abbrev pub CalledMet : List ℕ → Function → Sorts → ℕ → Scanned → Option FormulaRead → Type 0
CalledMet s f types depth u r = (room : ℕ) (a : Arguments) → Kept room types depth a → r ≡ answer_in (room + 1) (listed_at s f a u)

-- ---- fuel

by_fuel : (P : ℕ → Type 0) (m : ℕ) → ((k : ℕ) → m ≤ k → P (suc k)) → (n : ℕ) → m < n → P n
by_fuel P m h zero l = absurd (omega arith)
by_fuel P m h (suc k) l = h k (omega arith)

heft_answer : (room : ℕ) (s : List ℕ) (w : ℕ) (x : Reading) → Lighter s w x → heft s (answer_in room x) ≤ w
heft_answer room s w bad l = omega arith
heft_answer room s w (good f u) l = omega arith

pub formula_heft : (room : ℕ) (s : List ℕ) (level : ℕ) (t : Scanned) {r : Option FormulaRead} → FormulaMet room s level t r → heft s r ≤ weight s t
formula_heft room s level t m =
    let n = suc (weight s t + 2) in
    rw (m n (omega arith)) (heft_answer room s (weight s t) (formula_at n s level t) (formula_lightens n s level t))

pub operand_heft : (room : ℕ) (s : List ℕ) (level : ℕ) (t : Scanned) {r : Option FormulaRead} → OperandMet room s level t r → heft s r ≤ weight s t
operand_heft room s level t m =
    let n = suc (weight s t + 1) in
    rw (m n (omega arith))
    (heft_answer room s (weight s t) (operand_at n s level t.token t.next) (operand_lightens n s level t.token t.next))

-- what a formula that follows a token leaves weighs less than the token
pub after-heft : (room : ℕ) (s : List ℕ) (level : ℕ) (t : Scanned) {r : Option FormulaRead} → reads t.token ≡ true
    → FormulaMet room s level (after s t) r → heft s r + 4 ≤ weight s t
after-heft room s level t e m = omega (arith, formula_heft room s level (after s t) m, after_lighter s t e)

joined_heft : (s : List ℕ) (op : Operator) (k : Sort) (d : ℕ) (y : Option FormulaRead) → heft s (joined_read op k d y) ≡ heft s y
joined_heft s op k d None = refl
joined_heft s op k d (Some r) = refl

-- ---- a formula

pub formula_climbs : (room : ℕ) (s : List ℕ) (level : ℕ) (t : Scanned) (left r : Option FormulaRead) → OperandMet room s level t left
    → ClimbMet room s level left r → FormulaMet room s level t r
unfolding formula_at
formula_climbs room s level t left r m c =
    let h = operand_heft room s level t m in
    by_fuel (λ n. r ≡ answer_in room (formula_at n s level t)) (weight s t + 2)
    (λ n l. c (operand_at n s level t.token t.next) (m n (omega arith)) n (omega arith))

pub climb_bad : (room : ℕ) (s : List ℕ) (level : ℕ) → ClimbMet room s level None None
unfolding formula_at
climb_bad room s level x e = by_fuel (λ n. None ≡ answer_in room (climb_at n s level x)) 0 (λ n l. rw (not_read room x e refl))

module _ (room : ℕ) (s : List ℕ) (level : ℕ) (u : Scanned) (k : Sort) (d : ℕ) where
  pub climb_ends : None ≡ tight_operator level u.token → ClimbMet room s level (Good u k d) (Good u k d)
  unfolding formula_at
  climb_ends o x e =
      let a = answered room x e refl in
      by_fuel (λ n. Good u k d ≡ answer_in room (climb_at n s level x)) (weight s u)
      (λ n l. rw a.is (rw (← o) (λ i. Good u (a.sort i) (a.deep i))))

  -- one operator more, with its right side
  module _ (op : Operator) (o : Some op ≡ tight_operator level u.token) (y : Option FormulaRead)
      (m : FormulaMet room s (right_level op) (after s u) y) where
    pub climb_lighter : heft s (joined_read op k d y) + 4 ≤ weight s u
    climb_lighter =
        rw (joined_heft s op k d y) (after-heft room s (right_level op) u (operator_reads level u.token (sym o)) m)

    pub climb_goes : (r : Option FormulaRead) → ClimbMet room s level (joined_read op k d y) r → ClimbMet room s level (Good u k d) r
    unfolding formula_at
    climb_goes r c x e =
        let a = answered room x e refl in
        let h = climb_lighter in
        let g = after_lighter s u (operator_reads level u.token (sym o)) in
        by_fuel (λ n. r ≡ answer_in room (climb_at n s level x)) (weight s u)
        (λ n l. rw a.is (rw (← o)
        (c (mapped (two_sided op a.f) (formula_at n s (right_level op) (after s u)))
        (ap (joined_read op k d) (m n (omega arith))
        ∙ joined_answer room op k d a.f (formula_at n s (right_level op) (after s u)) a.sort a.deep)
        n
        (omega arith))))

-- ---- an operand

-- a token's or a sign's place in its list
abbrev pub token_tag : Token → ℕ
token_tag t = tag_of Rattle.words.specs.contracts.symbols.Token.the_type t

abbrev pub sign_tag : Sign → ℕ
sign_tag x = tag_of Rattle.words.specs.contracts.symbols.Sign.the_type x

-- those that begin no operand: the line's end, words, operators that are no signs, line numbers, and what does not read
abbrev pub other_tokens : List ℕ
other_tokens = 0 ∷ 1 ∷ 3 ∷ 8 ∷ 11 ∷ []

-- all signs but the opening parenthesis and the minus sign
abbrev pub other_signs : List ℕ
other_signs = 1 ∷ 2 ∷ 3 ∷ 4 ∷ 5 ∷ 6 ∷ []

no_operand : (n : ℕ) (s : List ℕ) (level : ℕ) (t : Token) (next : Place) → OneOf other_tokens (token_tag t)
    → operand_at (suc n) s level t next ≡ bad
unfolding formula_at
no_operand n s level token.EndOfLine next h = refl
no_operand n s level (token.Keyword w) next h = refl
no_operand n s level token.Not next h = absurd (miss other_tokens 2 tt h)
no_operand n s level (token.Infix op) next h = refl
no_operand n s level (token.Call f) next h = absurd (miss other_tokens 4 tt h)
no_operand n s level (token.Named v) next h = absurd (miss other_tokens 5 tt h)
no_operand n s level (token.Number v) next h = absurd (miss other_tokens 6 tt h)
no_operand n s level (token.Hexadecimal v) next h = absurd (miss other_tokens 7 tt h)
no_operand n s level (token.LineOnly v) next h = refl
no_operand n s level (token.Quoted q) next h = absurd (miss other_tokens 9 tt h)
no_operand n s level (token.Symbol sign) next h = absurd (miss other_tokens 10 tt h)
no_operand n s level token.Unreadable next h = refl

no_sign : (sign : Sign) (opening negative : Unit {0} → Reading) → OneOf other_signs (sign_tag sign)
    → by_sign sign opening negative ≡ bad
no_sign Open opening negative h = absurd (miss other_signs 0 tt h)
no_sign Close opening negative h = refl
no_sign Comma opening negative h = refl
no_sign Semicolon opening negative h = refl
no_sign Colon opening negative h = refl
no_sign Question opening negative h = refl
no_sign Equal opening negative h = refl
no_sign Minus opening negative h = absurd (miss other_signs 7 tt h)

module _ (room : ℕ) (s : List ℕ) (level : ℕ) (t : Scanned) where
  abbrev Operand : Option FormulaRead → ℕ → Type 0
  Operand r n = r ≡ answer_in (room + 1) (operand_at n s level t.token t.next)

  -- what has no parentheses has room
  fits : ltb 0 (room + 1) ≡ true
  fits = lt-ltb 0 (room + 1) (omega arith)

  flat : 0 ≡ depth_in (room + 1) 0
  flat = omega arith

  pub operand_number : (w : ℕ) → t.token ≡ token.Number w → OperandMet (room + 1) s level t (Good (after s t) Whole 0)
  unfolding formula_at sort_of depth_of
  operand_number w e = by_fuel (Operand (Good (after s t) Whole 0)) (weight s t + 1) (λ n l. rw (e, fits) (ap (Good (after s t) Whole) flat))

  pub operand_hexadecimal : (w : ℕ) → t.token ≡ token.Hexadecimal w → OperandMet (room + 1) s level t (Good (after s t) Whole 0)
  unfolding formula_at sort_of depth_of
  operand_hexadecimal w e = by_fuel (Operand (Good (after s t) Whole 0)) (weight s t + 1) (λ n l. rw (e, fits) (ap (Good (after s t) Whole) flat))

  pub operand_named : (v : Name) → t.token ≡ token.Named v → OperandMet (room + 1) s level t (Good (after s t) (of_kind v.kind) 0)
  unfolding formula_at sort_of depth_of
  operand_named v e = by_fuel (Operand (Good (after s t) (of_kind v.kind) 0)) (weight s t + 1) (λ n l. rw (e, fits) (ap (Good (after s t) (of_kind v.kind)) flat))

  pub operand_quoted : (q : Quotation) → t.token ≡ token.Quoted q → OperandMet (room + 1) s level t (Good (after s t) Text 0)
  unfolding formula_at sort_of depth_of
  operand_quoted q e = by_fuel (Operand (Good (after s t) Text 0)) (weight s t + 1) (λ n l. rw (e, fits) (ap (Good (after s t) Text) flat))

  pub operand_opens : (y : Option FormulaRead) → t.token ≡ token.Symbol Open → FormulaMet room s 0 (after s t) y
      → OperandMet (room + 1) s level t (closed_read s y)
  unfolding formula_at
  operand_opens y e m =
      let h = after_lighter s t (rw e) in
      by_fuel (Operand (closed_read s y)) (weight s t + 1)
      (λ n l. rw e (ap (closed_read s) (m n (omega arith)) ∙ closed_answer room s (formula_at n s 0 (after s t))))

  pub operand_negates : (y : Option FormulaRead) → t.token ≡ token.Symbol Minus → true ≡ minus_stands level
      → OperandMet (room + 1) s tightest (after s t) y → OperandMet (room + 1) s level t (fronted_read y)
  unfolding formula_at
  operand_negates y e g m =
      let h = after_lighter s t (rw e) in
      by_fuel (Operand (fronted_read y)) (weight s t + 1)
      (λ n l. rw (e, ← g)
      (ap fronted_read (m n (omega arith)) ∙ minus_answer (room + 1) (operand_at n s tightest (after s t).token (after s t).next)))

  pub operand_too_tight : t.token ≡ token.Symbol Minus → false ≡ minus_stands level → OperandMet (room + 1) s level t None
  unfolding formula_at
  operand_too_tight e g = by_fuel (Operand None) (weight s t + 1) (λ n l. rw (e, ← g))

  -- a chain of NOT, by the formula behind it
  pub operand_complements : (y : Option FormulaRead) → t.token ≡ token.Not → true ≡ not_stands level
      → FormulaMet (room + 1) s not_level (nots_of s t).ahead y → OperandMet (room + 1) s level t (fronted_read y)
  unfolding formula_in operand_of
  operand_complements y e g m n l =
      let k = weight-enough s t in
      let h = behind_lighter s t e in
      ap fronted_read (m (enough s) (omega arith))
      ∙ chain_answer s (room + 1) t e
      ∙ ap (answer_in (room + 1)) (sym (chain_operand s level t e (sym g)) ∙ operand_same (enough s) n s level t.token t.next (omega arith) l)

  pub operand_no_complement : t.token ≡ token.Not → false ≡ not_stands level → OperandMet (room + 1) s level t None
  unfolding formula_at
  operand_no_complement e g = by_fuel (Operand None) (weight s t + 1) (λ n l. rw (e, ← g))

  pub operand_calls : (f : Function) (r : Option FormulaRead) → t.token ≡ token.Call f → CallMet (room + 1) s f (after s t) r → OperandMet (room + 1) s level t r
  unfolding formula_at
  operand_calls f r e m =
      let h = after_lighter s t (rw e) in
      by_fuel (Operand r) (weight s t + 1) (λ n l. rw e (m n (omega arith)))

  pub operand_other : OneOf other_tokens (token_tag t.token) → OperandMet (room + 1) s level t None
  operand_other h = by_fuel (Operand None) (weight s t + 1) (λ n l. rw (no_operand n s level t.token t.next h))

  pub operand_no_sign : (sign : Sign) → t.token ≡ token.Symbol sign → OneOf other_signs (sign_tag sign)
      → OperandMet (room + 1) s level t None
  unfolding formula_at
  operand_no_sign sign e h = by_fuel (Operand None) (weight s t + 1) (λ n l. rw (e, no_sign sign _ _ h))

-- ---- arguments

module _ (room : ℕ) (s : List ℕ) (f : Function) (t : Scanned) where
  pub call_unopened : false ≡ is_symbol Open t.token → CallMet (room + 1) s f t None
  call_unopened e n l = rw (← e)

  pub call_lists : (r : Option FormulaRead) → true ≡ is_symbol Open t.token → NextMet room s f Zero 0 t r → CallMet (room + 1) s f t r
  call_lists r e m n l = rw (← e) (m none (kept_none room) n (omega arith))

  -- the argument that stands next, and what follows it
  pub next_lists : (types : Sorts) (depth : ℕ) (y r : Option FormulaRead) → reads t.token ≡ true → FormulaMet room s 0 (after s t) y
      → ListMet room s f types depth y r → NextMet room s f types depth t r
  next_lists types depth y r ok m c a kept n l =
      let h = after_lighter s t ok in
      let g = after-heft room s 0 t ok m in
      c a kept (formula_at n s 0 (after s t)) (m n (omega arith)) n (omega arith)

pub list_bad : (room : ℕ) (s : List ℕ) (f : Function) (types : Sorts) (depth : ℕ) → ListMet room s f types depth None None
unfolding formula_at
list_bad room s f types depth a kept x e =
    by_fuel (λ n. None ≡ answer_in (room + 1) (arguments_at n s f a x)) 0 (λ n l. rw (not_read room x e refl))

module _ (room : ℕ) (s : List ℕ) (f : Function) (types : Sorts) (depth : ℕ) (u : Scanned) (k : Sort) (d : ℕ) (types' : Sorts) (depth' : ℕ)
    (grown : Grown types depth k d types' depth') (r : Option FormulaRead) where
  pub list_ends : false ≡ is_symbol Comma u.token → CalledMet s f types' depth' u r → ListMet room s f types depth (Good u k d) r
  unfolding formula_at
  list_ends o c a kept x e =
      let g = answered room x e refl in
      by_fuel (λ n. r ≡ answer_in (room + 1) (arguments_at n s f a x)) (weight s u)
      (λ n l. rw g.is (rw (← o) (c room (also a g.f) (grown room a g.f kept g.sort g.deep))))

  pub list_goes : true ≡ is_symbol Comma u.token → NextMet room s f types' depth' u r → ListMet room s f types depth (Good u k d) r
  unfolding formula_at
  list_goes o c a kept x e =
      let g = answered room x e refl in
      by_fuel (λ n. r ≡ answer_in (room + 1) (arguments_at n s f a x)) (weight s u)
      (λ n l. rw g.is (rw (← o) (c (also a g.f) (grown room a g.f kept g.sort g.deep) n l)))

-- ---- where there is no room

pub inner_deep : (s : List ℕ) (t : Scanned) {r : Option Scanned} → r ≡ skimmed_of (formula_of s t) → FormulaMet 0 s 0 t (deep_read r)
unfolding formula_of
inner_deep s t e n h =
    let w = weight-enough s t in
    rw e (deep_answer (formula_at (enough s) s 0 t) ∙ ap (answer_in 0) (formula_same (enough s) n s 0 t (omega arith) h))

-- ---- the fuel that the grammar gives is enough

pub formula_of_lem : (s : List ℕ) (t : Scanned) (r : Option FormulaRead) → FormulaMet 9 s 0 t r → r ≡ answer_of (formula_of s t)
unfolding formula_of
formula_of_lem s t r m = m (enough s) (omega (arith, weight-enough s t))
