-- A chain of NOT. Behind a formula of NOT's level no operator of that level or a tighter one follows, so that NOT before NOT fronts the
-- whole of what the other does.
use mathlib.Core.Path.{◌≡◌, refl, sym, ap, ◌∙◌}
use mathlib.Core.Bool.{Bool, true, false, not, false≢true}
use mathlib.Core.List.{List, [], ◌∷◌}
use Prim.Native.Nat.{ℕ, zero, suc, ◌+◌, ◌≤◌, ◌<◌}
use native.Mathlib.Omega.{arith}
use denote.Enum.Declared.{tag_of}
use types.Run.{OneOf, miss}
use Rattle.words.specs.declared.places.Place.{Place}
use Rattle.words.specs.declared.symbols.Scanned.{Scanned}
use Rattle.words.specs.declared.symbols.Token.{Token}
use Rattle.words.specs.declared.symbols.Token.TheVariants.{EndOfLine, Keyword, Not, Infix, Call, Named, Number, Hexadecimal, LineOnly, Quoted, Symbol, Unreadable}
use Rattle.words.proofs.Choices.{by_test}
use Rattle.scanner.specs.Tokens.{token_at}
use Rattle.grammar.specs.Trees.{Formula, complement}
use Rattle.grammar.specs.Formulas.{not_level, not_stands, Reading, bad, good, mapped, after, enough}
use Rattle.skimming.specs.bridge.Remaining.{weight, formula_in, climb_of, operand_of}
use Rattle.skimming.proofs.Weights.{weight-enough, after_lighter}
use Rattle.skimming.proofs.Fuel.{formula_unrolled, operand_is, climb_bad}
use Rattle.expressions.specs.Types.{whole_only, depth_of}
use Rattle.expressions.specs.bridge.Answers.{sort_in, depth_in, answer_in, fronted_read}
use Rattle.expressions.specs.bridge.Nots.{is_not, turned, nots_at, nots_of}
use Rattle.expressions.specs.declared.nots.Nots.{Nots}
use Rattle.expressions.specs.bridge.Answers.{Good}
use Rattle.expressions.specs.declared.sorts.Sort.{Sort}
use Rattle.expressions.specs.declared.sorts.Sort.TheVariants.{Whole, Text, Wrong}
use Rattle.expressions.proofs.Answering.{complement_answer}
use Rattle.expressions.proofs.Levelled.{formula_ends}
use Rattle.expressions.proofs.Views.{climb_stops}

-- ---- tokens

pub is_not_lem : (t : Token) → is_not t ≡ true → t ≡ Not
is_not_lem EndOfLine e = absurd (false≢true e)
is_not_lem (Keyword w) e = absurd (false≢true e)
is_not_lem Not e = refl
is_not_lem (Infix op) e = absurd (false≢true e)
is_not_lem (Call f) e = absurd (false≢true e)
is_not_lem (Named v) e = absurd (false≢true e)
is_not_lem (Number n) e = absurd (false≢true e)
is_not_lem (Hexadecimal n) e = absurd (false≢true e)
is_not_lem (LineOnly l) e = absurd (false≢true e)
is_not_lem (Quoted q) e = absurd (false≢true e)
is_not_lem (Symbol s) e = absurd (false≢true e)
is_not_lem Unreadable e = absurd (false≢true e)

abbrev others : List ℕ
others = 0 ∷ 1 ∷ 3 ∷ 4 ∷ 5 ∷ 6 ∷ 7 ∷ 8 ∷ 9 ∷ 10 ∷ 11 ∷ []

pub no_not : (t : Token) → OneOf others (tag_of Rattle.words.specs.contracts.symbols.Token.the_type t) → is_not t ≡ false
no_not EndOfLine h = refl
no_not (Keyword w) h = refl
no_not Not h = absurd (miss others 2 tt h)
no_not (Infix op) h = refl
no_not (Call f) h = refl
no_not (Named v) h = refl
no_not (Number n) h = refl
no_not (Hexadecimal n) h = refl
no_not (LineOnly l) h = refl
no_not (Quoted q) h = refl
no_not (Symbol s) h = refl
no_not Unreadable h = refl

-- ---- so many of them

unfoldable pub nots : ℕ → Formula → Formula
nots zero f = f
nots (suc n) f = complement (nots n f)

pub nots_depth : (n : ℕ) (f : Formula) → depth_of (nots n f) ≡ depth_of f
unfolding nots depth_of
nots_depth zero f = refl
nots_depth (suc n) f = nots_depth n f

mapped_none : (x : Reading) → mapped (nots 0) x ≡ x
unfolding nots
mapped_none bad = refl
mapped_none (good f u) = refl

mapped_more : (n : ℕ) (x : Reading) → mapped complement (mapped (nots n) x) ≡ mapped (nots (suc n)) x
unfolding nots
mapped_more n bad = refl
mapped_more n (good f u) = refl

-- what wants a whole number wants it once
whole_twice : (k : Sort) → whole_only (whole_only k) ≡ whole_only k
whole_twice Whole = refl
whole_twice Text = refl
whole_twice Wrong = refl

nots_answer : (room n : ℕ) (x : Reading) → answer_in room (mapped (nots (suc n)) x) ≡ fronted_read (answer_in room x)
unfolding nots
nots_answer room n bad = refl
nots_answer room zero (good f u) = sym (complement_answer room (good f u))
nots_answer room (suc n) (good f u) =
    sym (complement_answer room (good (nots (suc n) f) u))
    ∙ ap fronted_read (nots_answer room n (good f u))
    ∙ ap (λ k. Good u k (depth_in room (depth_of f))) (whole_twice (sort_in room f))

module _ (s : List ℕ) where
  -- ---- passing over

  -- two bounds above what is left to read
  nots_same : (n m : ℕ) (odd : Bool) (t : Scanned) → weight s t < n → weight s t < m → nots_at n s odd t ≡ nots_at m s odd t
  unfolding nots_at
  nots_same zero m odd t h k = absurd (omega arith)
  nots_same (suc n) zero odd t h k = absurd (omega arith)
  nots_same (suc n) (suc m) odd t h k =
      by_test (is_not t.token)
      (λ e.
      let l = after_lighter s t (rw (is_not_lem t.token e)) in
      rw e (nots_same n m (not odd) (after s t) (omega arith) (omega arith)))
      (λ e. rw e)

  unrolled : (odd : Bool) (t : Scanned) → nots_at (enough s) s odd t ≡ nots_at (suc (enough s)) s odd t
  unrolled odd t = nots_same (enough s) (suc (enough s)) odd t (omega (arith, weight-enough s t)) (omega (arith, weight-enough s t))

  pub nots_goes : (odd : Bool) (t : Scanned) → t.token ≡ Not → nots_at (enough s) s odd t ≡ nots_at (enough s) s (not odd) (after s t)
  unfolding nots_at
  nots_goes odd t e = let k : is_not t.token ≡ true = ap is_not e in rw k at (unrolled odd t)

  pub nots_ends : (odd : Bool) (t : Scanned) → is_not t.token ≡ false → nots_at (enough s) s odd t ≡ record { ahead = t; odd = odd }
  unfolding nots_at
  nots_ends odd t e = rw e at (unrolled odd t)

  -- what is so of the first token and of every token of the line is so of the one behind the chain
  behind_at : (P : Scanned → Type 0) → ((at : Place) → P (token_at s at)) → (n : ℕ) (odd : Bool) (t : Scanned) → P t → P (nots_at n s odd t).ahead
  unfolding nots_at
  behind_at P h zero odd t p = p
  behind_at P h (suc n) odd t p =
      by_test (is_not t.token) (λ e. rw e (behind_at P h n (not odd) (after s t) (h t.next))) (λ e. rw e p)

  pub behind : (P : Scanned → Type 0) → ((at : Place) → P (token_at s at)) → (t : Scanned) → P t → P (nots_of s t).ahead
  unfolding nots_of
  behind P h t p = behind_at P h (enough s) false t p

  lighter_at : (n : ℕ) (odd : Bool) (t : Scanned) → weight s (nots_at n s odd t).ahead ≤ weight s t
  unfolding nots_at
  lighter_at zero odd t = omega arith
  lighter_at (suc n) odd t =
      by_test (is_not t.token)
      (λ e. rw e (omega (arith, lighter_at n (not odd) (after s t), after_lighter s t (rw (is_not_lem t.token e)))))
      (λ e. rw e (omega arith))

  pub behind_lighter : (t : Scanned) → t.token ≡ Not → weight s (nots_of s t).ahead + 4 ≤ weight s t
  unfolding nots_of
  behind_lighter t e =
      rw (nots_goes false t e) (omega (arith, lighter_at (enough s) true (after s t), after_lighter s t (rw e)))

  -- ---- reading

  closes : (x : Reading) → ((f : Formula) (u : Scanned) → x ≡ good f u → climb_of s not_level (good (complement f) u) ≡ good (complement f) u)
      → climb_of s not_level (mapped complement x) ≡ mapped complement x
  closes bad h = climb_bad s not_level
  closes (good f u) h = h f u refl

  -- a formula of NOT's level that begins with NOT is that operand
  pub not_reads : (t : Scanned) → t.token ≡ Not → formula_in s not_level t ≡ mapped complement (formula_in s not_level (after s t))
  not_reads t e =
      formula_unrolled s not_level t
      ∙ ap (climb_of s not_level) (operand_is s not_level t e)
      ∙ closes (formula_in s not_level (after s t)) (λ f u i. climb_stops s not_level (complement f) u (formula_ends s not_level (after s t) i))

  pub chain_operand : (level : ℕ) (t : Scanned) → t.token ≡ Not → not_stands level ≡ true → operand_of s level t ≡ formula_in s not_level t
  chain_operand level t e k = rw k at (operand_is s level t e) ∙ sym (not_reads t e)

  -- ---- the chain

  -- so many NOT stand before what is behind them
  record Chain (t : Scanned) (odd : Bool) (r : Nots) : Type 0 where
    count : ℕ
    reads : formula_in s not_level t ≡ mapped (nots count) (formula_in s not_level r.ahead)
    parity : r.odd ≡ turned count odd

  chain_at : (n : ℕ) (odd : Bool) (t : Scanned) → Chain t odd (nots_at n s odd t)
  unfolding nots_at turned
  chain_at zero odd t = record { count = 0; reads = sym (mapped_none (formula_in s not_level t)); parity = refl }
  chain_at (suc n) odd t =
      by_test (is_not t.token)
      (λ e.
      let c = chain_at n (not odd) (after s t) in
      let x = formula_in s not_level (nots_at n s (not odd) (after s t)).ahead in
      rw e (record {
        count = suc c.count;
        reads = not_reads t (is_not_lem t.token e) ∙ ap (mapped complement) c.reads ∙ mapped_more c.count x;
        parity = c.parity;
      }))
      (λ e. rw e (record { count = 0; reads = sym (mapped_none (formula_in s not_level t)); parity = refl }))

  -- from the first NOT on
  pub record Chained (t : Scanned) : Type 0 where
    pub more : ℕ
    pub reads : formula_in s not_level t ≡ mapped (nots (suc more)) (formula_in s not_level (nots_of s t).ahead)
    pub parity : (nots_of s t).odd ≡ turned (suc more) false

  pub chained : (t : Scanned) → t.token ≡ Not → Chained t
  unfolding nots_of turned
  chained t e =
      let c = chain_at (enough s) true (after s t) in
      let g = nots_goes false t e in
      record {
        more = c.count;
        reads = rw g (not_reads t e ∙ ap (mapped complement) c.reads ∙ mapped_more c.count (formula_in s not_level (nots_at (enough s) s true (after s t)).ahead));
        parity = rw g c.parity;
      }

  -- one answers as many do
  pub chain_answer : (room : ℕ) (t : Scanned) → t.token ≡ Not
      → fronted_read (answer_in room (formula_in s not_level (nots_of s t).ahead)) ≡ answer_in room (formula_in s not_level t)
  chain_answer room t e =
      let c = chained t e in
      sym (nots_answer room c.more (formula_in s not_level (nots_of s t).ahead)) ∙ ap (answer_in room) (sym c.reads)
