-- What follows a formula that is skimmed weighs less than where it began, and so does what each step of the code goes on to.
use Rattle.std.specs.Prelude.{None, Option, Some}
use mathlib.Core.Path.{◌≡◌, refl}
use mathlib.Core.List.{List, [], ◌∷◌}
use Prim.Native.Nat.{ℕ, ◌+◌, ◌/◌, ◌%◌, ◌≤◌}
use native.Mathlib.Omega.{arith}
use borrow.Author.Tests.{eqb-false}
use lib.Dec.{eqb}
use Rattle.words.specs.declared.places.Place.{Place}
use Rattle.words.specs.declared.symbols.Scanned.{Scanned}
use Rattle.words.specs.declared.symbols.Sign.TheVariants.{Open, Close, Comma, Semicolon, Colon, Question, Equal, Minus}
use Rattle.words.specs.declared.symbols.Token.{Token}
use Rattle.words.specs.declared.symbols.Token.TheVariants.{EndOfLine, Keyword, Not, Infix, Call, Named, Number, Hexadecimal, LineOnly, Quoted, Symbol, Unreadable}
use Rattle.words.proofs.Choices.{by_test}
use Rattle.scanner.specs.Tokens.{token_at}
use Rattle.grammar.specs.Tests.{is_symbol}
use Rattle.grammar.specs.Formulas.{minus_stands, not_stands, operator_of, Reading, bad, good, closed, enough}
use Rattle.skimming.specs.bridge.Flat.{skimmed_of, Opened, plain, of}
use Rattle.skimming.specs.bridge.Marks.{less_bits, mark_of}
use Rattle.skimming.specs.bridge.Remaining.{weight, climb_of, operand_of, arguments_of}
use Rattle.skimming.specs.bridge.Steps.{want_step, end_step, has_step, step_of}
use Rattle.skimming.specs.declared.stepping.Phase.{Phase}
use Rattle.skimming.specs.declared.stepping.Phase.TheVariants as phase
use Rattle.skimming.specs.declared.stepping.Step.{Step}
use Rattle.skimming.specs.declared.stepping.Step.TheVariants.{Refused, Ends, Wants, Has, Opens, Renews, Closes}
use Rattle.skimming.proofs.Weights.{symbol_reads, after_lighter}
use Rattle.skimming.proofs.Grammar.{by_found, Lighter, closed_lighter, climb_lightens, operand_lightens, arguments_lightens}
use Rattle.skimming.proofs.Chains.{reading, loosest, chained}
use Rattle.skimming.proofs.Outside.{counted, ended, outside, wants}
use Rattle.skimming.proofs.Agreement.{infix_reads}
use Rattle.skimming.proofs.Bits.{mark_some}

module _ (s : List ℕ) where
  -- ---- a formula

  -- what follows weighs less than a bound
  abbrev pub Light : ℕ → Option Scanned → Type 0
  Light w None = Unit {0}
  Light w (Some u) = weight s u + 4 ≤ w

  skimmed_light : (w : ℕ) (x : Reading) → Lighter s w x → Light w (skimmed_of x)
  skimmed_light w bad l = tt
  skimmed_light w (good f u) l = l

  reading_light : (w : ℕ) (x : Option Scanned) → Light w x → Lighter s w (reading x)
  reading_light w None l = tt
  reading_light w (Some u) l = l

  chained_light : (w : ℕ) (x : Option Scanned) → Light w x → Light w (chained s x)
  unfolding climb_of
  chained_light w x l =
      skimmed_light w (climb_of s 0 (reading x)) (climb_lightens (enough s) s 0 w (reading x) (reading_light w x l))

  ended_light : (o : Opened) (w : ℕ) (x : Option Scanned) → Light w x → Light w (ended s o x)
  unfolding arguments_of
  ended_light plain w x l = skimmed_light w (closed s (reading x)) (closed_lighter s w (reading x) (reading_light w x l))
  ended_light (of f k) w x l =
      skimmed_light w (arguments_of s f (counted k) (reading x))
      (arguments_lightens (enough s) s w f (counted k) (reading x) (reading_light w x l))

  outside_light : (os : List Opened) (w : ℕ) (x : Option Scanned) → Light w x → Light w (outside s os x)
  unfolding outside
  outside_light [] w x l = l
  outside_light (o ∷ os) w x l = outside_light os w (chained s (ended s o x)) (chained_light w (ended s o x) (ended_light o w x l))

  pub wants_light : (os : List Opened) (level : ℕ) (t : Scanned) → Light (weight s t) (wants s os level t)
  unfolding operand_of
  wants_light os level t =
      let x = skimmed_of (operand_of s level t) in
      let l : Light (weight s t) x =
      skimmed_light (weight s t) (operand_of s level t) (operand_lightens (enough s) s level t.token t.next) in
      outside_light os (weight s t) (chained s x) (chained_light (weight s t) x l)

  -- ---- a step

  -- a mark says that something is open
  pub record Carries (m : ℕ) : Type 0 where
    pub o : Opened
    pub marked : m ≡ mark_of o
    pub some : m ≡ 0 → ⊥

  -- what a step goes on to weighs less, what it opens has a mark, and what it renews or closes was open
  abbrev pub Lightens : ℕ → ℕ → Step → Type 0
  Lightens w m Refused = Unit {0}
  Lightens w m Ends = Unit {0}
  Lightens w m (Wants u level) = weight s u + 4 ≤ w
  Lightens w m (Has u) = weight s u + 4 ≤ w
  Lightens w m (Opens u k) = (weight s u + 4 ≤ w) × Carries k
  Lightens w m (Renews u k) = (weight s u + 4 ≤ w) × (m ≡ 0 → ⊥)
  Lightens w m (Closes u) = (weight s u + 4 ≤ w) × (m ≡ 0 → ⊥)

  want_lightens : (level m : ℕ) (token : Token) (next : Place)
      → Lightens (weight s (record { token = token; next = next })) m (want_step s level token next)
  unfolding less_bits
  want_lightens level m (Number w) next = after_lighter s (record { token = Number w; next = next }) refl
  want_lightens level m (Hexadecimal w) next = after_lighter s (record { token = Hexadecimal w; next = next }) refl
  want_lightens level m (Named v) next = after_lighter s (record { token = Named v; next = next }) refl
  want_lightens level m (Quoted q) next = after_lighter s (record { token = Quoted q; next = next }) refl
  want_lightens level m (Symbol Open) next =
      (after_lighter s (record { token = Symbol Open; next = next }) refl, record { o = plain; marked = refl; some = λ e. omega arith })
  want_lightens level m (Symbol Minus) next =
      let g = after_lighter s (record { token = Symbol Minus; next = next }) refl in
      by_test (minus_stands level) (λ e. rw e g) (λ e. rw e tt)
  want_lightens level m (Symbol Close) next = tt
  want_lightens level m (Symbol Comma) next = tt
  want_lightens level m (Symbol Semicolon) next = tt
  want_lightens level m (Symbol Colon) next = tt
  want_lightens level m (Symbol Question) next = tt
  want_lightens level m (Symbol Equal) next = tt
  want_lightens level m Not next =
      let g = after_lighter s (record { token = Not; next = next }) refl in
      by_test (not_stands level) (λ e. rw e g) (λ e. rw e tt)
  want_lightens level m (Call f) next =
      let g = after_lighter s (record { token = Call f; next = next }) refl in
      let u = token_at s next in
      by_test (is_symbol Open u.token)
      (λ e.
      let j = after_lighter s u (symbol_reads Open u.token e) in
      rw e (omega arith, record { o = of f 0; marked = refl; some = mark_some f }))
      (λ e. rw e tt)
  want_lightens level m EndOfLine next = tt
  want_lightens level m (Keyword w) next = tt
  want_lightens level m (Infix op) next = tt
  want_lightens level m (LineOnly l) next = tt
  want_lightens level m Unreadable next = tt

  end_lightens : (m : ℕ) (t : Scanned) → Lightens (weight s t) m (end_step s m t.token t.next)
  end_lightens m t =
      by_test (eqb m 0) (λ e. rw e tt) λ e. rw e
      (by_test (is_symbol Comma t.token)
      (λ g.
      let l = after_lighter s t (symbol_reads Comma t.token g) in
      rw g (by_test (eqb (m / 2) 0) (λ h. rw h tt) (λ h. rw h (l, eqb-false m 0 e))))
      (λ g. rw g (by_test (is_symbol Close t.token)
      (λ h.
      let l = after_lighter s t (symbol_reads Close t.token h) in
      rw h (by_test (eqb (m % 2) 1) (λ i. rw i (l, eqb-false m 0 e)) (λ i. rw i tt)))
      (λ h. rw h tt))))

  has_lightens : (m : ℕ) (t : Scanned) → Lightens (weight s t) m (has_step s m t.token t.next)
  has_lightens m t =
      by_found (operator_of t.token)
      (λ op e. rw (loosest (operator_of t.token), e) (after_lighter s t (infix_reads t.token e)))
      (λ e. rw (loosest (operator_of t.token), e) (end_lightens m t))

  pub step_lightens : (p : Phase) (m : ℕ) (t : Scanned) → Lightens (weight s t) m (step_of s p m t)
  step_lightens (phase.Wants level) m t = want_lightens level m t.token t.next
  step_lightens phase.Has m t = has_lightens m t
