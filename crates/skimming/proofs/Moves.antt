-- What each step of the code does to what is open, and that it goes on along the line.
use Rattle.std.specs.Prelude.{None, Option, Some}
use mathlib.Core.Path.{◌≡◌, refl, sym, ap, ◌∙◌}
use mathlib.Core.Bool.{true, false}
use mathlib.Core.List.{List, [], ◌∷◌}
use Prim.Native.Nat.{ℕ, suc, ◌/◌, ◌%◌}
use native.Mathlib.Omega.{arith}
use borrow.Author.Tests.{eqb-true, eqb-false, ne_eqb}
use lib.Dec.{eqb}
use Rattle.words.specs.declared.places.Place.{Place}
use Rattle.words.specs.declared.symbols.Function.{Function}
use Rattle.words.specs.declared.symbols.Scanned.{Scanned}
use Rattle.words.specs.declared.symbols.Sign.TheVariants.{Open, Close, Comma, Semicolon, Colon, Question, Equal, Minus}
use Rattle.words.specs.declared.symbols.Token.{Token}
use Rattle.words.specs.declared.symbols.Token.TheVariants.{EndOfLine, Keyword, Not, Infix, Call, Named, Number, Hexadecimal, LineOnly, Quoted, Symbol, Unreadable}
use Rattle.words.proofs.Choices.{by_test}
use Rattle.scanner.specs.Tokens.{token_at}
use Rattle.grammar.specs.Tests.{sign_rank, is_symbol}
use Rattle.grammar.specs.Formulas.{minus_stands, not_stands, operator_of, after, enough}
use Rattle.skimming.specs.bridge.Flat.{Opened, plain, of}
use Rattle.skimming.specs.bridge.Marks.{function_mark, less_bits, mark_of}
use Rattle.skimming.specs.bridge.Remaining.{arguments_of}
use Rattle.skimming.specs.bridge.Steps.{want_step, end_step, has_step, step_of}
use Rattle.skimming.specs.declared.stepping.Phase.{Phase}
use Rattle.skimming.specs.declared.stepping.Phase.TheVariants as phase
use Rattle.skimming.specs.declared.stepping.Step.{Step}
use Rattle.skimming.specs.declared.stepping.Step.TheVariants.{Refused, Ends, Wants, Has, Opens, Renews, Closes}
use Rattle.skimming.proofs.Grammar.{by_found}
use Rattle.skimming.proofs.Chains.{reading, loosest, chained, operand_in}
use Rattle.skimming.proofs.Outside.{counted, counted_count, ended, outside, outside_nothing, wants, has, begins, wants-begins, begins_bad, begins_open, begins_minus, begins_not, begins_call, has_operator, has_end, end_plain, end_call}
use Rattle.skimming.proofs.Bits.{mark_some, takes_mark, spent}

-- a comma does not close
comma_stays : (t : Token) → is_symbol Comma t ≡ true → is_symbol Close t ≡ false
comma_stays EndOfLine e = refl
comma_stays (Keyword w) e = refl
comma_stays Not e = refl
comma_stays (Infix op) e = refl
comma_stays (Call f) e = refl
comma_stays (Named v) e = refl
comma_stays (Number n) e = refl
comma_stays (Hexadecimal n) e = refl
comma_stays (LineOnly l) e = refl
comma_stays (Quoted q) e = refl
comma_stays (Symbol x) e = rw (eqb-true (sign_rank x) 2 e)
comma_stays Unreadable e = refl

-- ---- what is open, by the mark of what was opened last

abbrev pub Top : List Opened → ℕ → Type 0
Top [] m = m ≡ 0
Top (o ∷ os) m = (m ≡ mark_of o) × (m ≡ 0 → ⊥)

module _ (s : List ℕ) where
  -- where a function can take no further argument, nothing reads
  ended_spent : (f : Function) (k : ℕ) (x : Option Scanned) → less_bits k (function_mark f) ≡ 0 → ended s (of f k) x ≡ None
  unfolding arguments_of
  ended_spent f k x h =
      rw (spent (enough s) s f (counted k) (reading x) (ap (λ n. less_bits n (function_mark f)) (counted_count k) ∙ h))

  wants_spent : (os : List Opened) (f : Function) (k : ℕ) (u : Scanned) → less_bits k (function_mark f) ≡ 0
      → wants s (of f k ∷ os) 0 u ≡ None
  unfolding outside
  wants_spent os f k u h = ap (λ x. outside s os (chained s x)) (ended_spent f k (operand_in s 0 u) h) ∙ begins_bad s os

  -- ---- what a step makes of what is left of the whole

  pub record Opening (os : List Opened) (x : Option Scanned) (u : Scanned) (m : ℕ) : Type 0 where
    pub o : Opened
    pub marked : m ≡ mark_of o
    pub some : m ≡ 0 → ⊥
    pub leads : x ≡ wants s (o ∷ os) 0 u

  pub record Renewal (os : List Opened) (x : Option Scanned) (u : Scanned) (m : ℕ) : Type 0 where
    pub last : Opened
    pub rest : List Opened
    pub was : os ≡ last ∷ rest
    pub o : Opened
    pub marked : m ≡ mark_of o
    pub some : m ≡ 0 → ⊥
    pub leads : x ≡ wants s (o ∷ rest) 0 u

  pub record Closing (os : List Opened) (x : Option Scanned) (u : Scanned) : Type 0 where
    pub last : Opened
    pub rest : List Opened
    pub was : os ≡ last ∷ rest
    pub leads : x ≡ has s rest u

  abbrev pub Goes : List Opened → Option Scanned → Scanned → Step → Type 0
  Goes os x t Refused = x ≡ None
  Goes os x t Ends = x ≡ Some t
  Goes os x t (Wants u level) = x ≡ wants s os level u
  Goes os x t (Has u) = x ≡ has s os u
  Goes os x t (Opens u m) = Opening os x u m
  Goes os x t (Renews u m) = Renewal os x u m
  Goes os x t (Closes u) = Closing os x u

  -- ---- an operand is wanted

  want_goes : (os : List Opened) (t : Scanned) (level : ℕ) (token : Token) (next : Place)
      → Goes os (begins s os level token (token_at s next)) t (want_step s level token next)
  unfolding less_bits
  want_goes os t level (Number w) next = refl
  want_goes os t level (Hexadecimal w) next = refl
  want_goes os t level (Named v) next = refl
  want_goes os t level (Quoted q) next = refl
  want_goes os t level (Symbol Open) next =
      record { o = plain; marked = refl; some = λ e. omega arith; leads = begins_open s os level (token_at s next) }
  want_goes os t level (Symbol Minus) next =
      let h = begins_minus s os level (token_at s next) in
      by_test (minus_stands level) (λ e. rw e (rw e at h)) (λ e. rw e (rw e at h))
  want_goes os t level (Symbol Close) next = begins_bad s os
  want_goes os t level (Symbol Comma) next = begins_bad s os
  want_goes os t level (Symbol Semicolon) next = begins_bad s os
  want_goes os t level (Symbol Colon) next = begins_bad s os
  want_goes os t level (Symbol Question) next = begins_bad s os
  want_goes os t level (Symbol Equal) next = begins_bad s os
  want_goes os t level Not next =
      let h = begins_not s os level (token_at s next) in
      by_test (not_stands level) (λ e. rw e (rw e at h)) (λ e. rw e (rw e at h))
  want_goes os t level (Call f) next =
      let u = token_at s next in
      let h = begins_call s os level f u in
      by_test (is_symbol Open u.token)
      (λ e. rw e (record { o = of f 0; marked = refl; some = mark_some f; leads = rw e at h }))
      (λ e. rw e (rw e at h))
  want_goes os t level EndOfLine next = begins_bad s os
  want_goes os t level (Keyword w) next = begins_bad s os
  want_goes os t level (Infix op) next = begins_bad s os
  want_goes os t level (LineOnly l) next = begins_bad s os
  want_goes os t level Unreadable next = begins_bad s os

  -- ---- an operand was read, and no operator follows

  end_goes : (os : List Opened) (m : ℕ) (t : Scanned) → Top os m
      → Goes os (outside s os (Some t)) t (end_step s m t.token t.next)
  unfolding less_bits
  end_goes [] m t h = rw h (outside_nothing s (Some t))
  end_goes (plain ∷ os) m t h =
      let p = end_plain s os t in
      rw h.0
      (by_test (is_symbol Comma t.token)
      (λ e. rw e (rw (comma_stays t.token e) at p))
      (λ e. rw e (by_test (is_symbol Close t.token)
      (λ g. rw g (record { last = plain; rest = os; was = refl; leads = rw g at p }))
      (λ g. rw g (rw g at p)))))
  end_goes (of f k ∷ os) m t h =
      let p = end_call s os f k t in
      let w = takes_mark f k in
      rw (ne_eqb m 0 h.1)
      (by_test (is_symbol Comma t.token)
      (λ e. rw e (let q = rw e at p in
      by_test (eqb (m / 2) 0)
      (λ g. rw g (q ∙ wants_spent os f (suc k) (after s t) (ap (λ x. x / 2) (sym h.0) ∙ eqb-true (m / 2) 0 g)))
      (λ g. rw g (record {
        last = of f k;
        rest = os;
        was = refl;
        o = of f (suc k);
        marked = ap (λ x. x / 2) h.0;
        some = eqb-false (m / 2) 0 g;
        leads = q;
      }))))
      (λ e. rw e (by_test (is_symbol Close t.token)
      (λ g. rw g (let q = rw (e, g, w, ← h.0) at p in
      by_test (eqb (m % 2) 1)
      (λ i. rw i (record { last = of f k; rest = os; was = refl; leads = rw i at q }))
      (λ i. rw i (rw i at q))))
      (λ g. rw g (rw (e, g) at p)))))

  has_goes : (os : List Opened) (m : ℕ) (t : Scanned) → Top os m → Goes os (has s os t) t (has_step s m t.token t.next)
  has_goes os m t h =
      by_found (operator_of t.token)
      (λ op e. rw (loosest (operator_of t.token), e) (has_operator s os t e))
      (λ e. rw (loosest (operator_of t.token), e, has_end s os t e) (end_goes os m t h))

  -- ---- a step

  -- what is left of the whole
  abbrev pub lead : List Opened → Phase → Scanned → Option Scanned
  lead os (phase.Wants level) t = wants s os level t
  lead os phase.Has t = has s os t

  pub step_goes : (os : List Opened) (p : Phase) (m : ℕ) (t : Scanned) → Top os m → Goes os (lead os p t) t (step_of s p m t)
  step_goes os (phase.Wants level) m t h = rw (wants-begins s os level t) (want_goes os t level t.token t.next)
  step_goes os phase.Has m t h = has_goes os m t h
