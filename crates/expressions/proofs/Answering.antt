-- The code's answers beside what is read: types and depths are made of the parts' types and depths alike.
use mathlib.Core.Path.{◌≡◌, refl, sym, ap, ◌∙◌}
use mathlib.Core.Bool.{true, false}
use mathlib.Core.List.{List, [], ◌∷◌, ◌++◌}
use Prim.Native.Nat.{ℕ, suc, ◌+◌, min, max}
use native.Mathlib.Omega.{arith}
use borrow.Author.Tests.{leb-true, leb-false, le-ltb}
use lib.Dec.{leb}
use lib.ListN.{length, length-append}
use Rattle.whole.specs.declared.arithmetic.Operator.{Operator}
use Rattle.whole.proofs.Never.{never}
use Rattle.words.specs.declared.symbols.Function.{Function}
use Rattle.words.specs.declared.symbols.Scanned.{Scanned}
use Rattle.words.specs.declared.symbols.Sign.TheVariants.{Close}
use Rattle.words.proofs.Choices.{by_test}
use Rattle.grammar.specs.Tests.{is_symbol}
use Rattle.grammar.specs.Trees.{Formula, inside, minus, complement, two_sided, call, Arguments, none, also}
use Rattle.grammar.specs.Functions.{takes}
use Rattle.grammar.specs.Formulas.{Reading, bad, good, mapped, after, closed, count_of}
use Rattle.expressions.specs.Types.{call_sort, depth_of, deepest_of, deepest_nesting}
use Rattle.expressions.specs.bridge.Answers.{sorts_by, fit_of, capped_depth, deeper, sort_in, sorts_in, depth_in, answer_in, answer_of, deep_read, fronted_read, joined_read, closed_read, Kept, listed_at}
use Rattle.expressions.specs.declared.calls.Sorts.{Sorts}
use Rattle.expressions.specs.declared.calls.Sorts.TheVariants as sorts
use Rattle.expressions.specs.declared.readers.FormulaRead.{FormulaRead}
use Rattle.expressions.specs.bridge.Answers.{read_as, Good}
use Rattle.std.specs.Prelude.{Option, Some, None}
use Rattle.expressions.specs.declared.sorts.Sort.{Sort}
use Rattle.skimming.specs.bridge.Flat.{skimmed_of}
use Rattle.expressions.proofs.Rooms.{sort_inside, sort_minus, sort_complement, sort_joined, sort_call}
use Rattle.expressions.proofs.Sorting.{few}

-- ---- an answer that is good is of a reading that is

pub record Answered (room : ℕ) (x : Reading) (u : Scanned) (k : Sort) (d : ℕ) : Type 0 where
  pub f : Formula
  pub is : x ≡ good f u
  pub sort : k ≡ sort_in room f
  pub deep : d ≡ depth_in room (depth_of f)

pub answered : (room : ℕ) (x : Reading) {a : Option FormulaRead} {r : FormulaRead} → a ≡ answer_in room x → a ≡ Some r
    → Answered room x r.ahead r.sort r.deepest
answered room bad e g = never (cc)
answered room (good f v) {r = r} e g =
    let h : read_as v (sort_in room f) (depth_in room (depth_of f)) ≡ r = cc in
    record {
      f = f;
      is = ap (λ (q : FormulaRead). good f q.ahead) h;
      sort = sym (ap (λ (q : FormulaRead). q.sort) h);
      deep = sym (ap (λ (q : FormulaRead). q.deepest) h);
    }

-- the same where eight may nest
pub record AnsweredWell (x : Reading) (u : Scanned) (k : Sort) (d : ℕ) : Type 0 where
  pub f : Formula
  pub is : x ≡ good f u
  pub sort : k ≡ sort_in 9 f
  pub deep : d ≡ capped_depth (depth_of f)

pub answered_well : (x : Reading) {a : Option FormulaRead} {r : FormulaRead} → a ≡ answer_of x → a ≡ Some r
    → AnsweredWell x r.ahead r.sort r.deepest
answered_well x e g =
    let h = answered 9 x e g in
    let c : depth_in 9 (depth_of h.f) ≡ capped_depth (depth_of h.f) = omega arith in
    record { f = h.f; is = h.is; sort = h.sort; deep = h.deep ∙ c }

pub not_read : (room : ℕ) (x : Reading) {a : Option FormulaRead} → a ≡ answer_in room x → a ≡ None → x ≡ bad
not_read room bad e g = refl
not_read room (good f v) e g = cc

-- ---- depths, counted up to nine

capped_suc : (d : ℕ) → deeper (capped_depth d) ≡ capped_depth (suc d)
capped_suc d =
    by_test (leb (capped_depth d) deepest_nesting)
    (λ e. rw e (omega (arith, leb-true (capped_depth d) deepest_nesting e)))
    (λ e. rw e (omega (arith, leb-false (capped_depth d) deepest_nesting e)))

-- one pair of parentheses takes one of the room
deeper_in : (room d : ℕ) → deeper (depth_in room d) ≡ depth_in (room + 1) (suc d)
deeper_in room d = capped_suc (min room d) ∙ ap capped_depth (omega arith)

pub capped_max : (a b : ℕ) → capped_depth (max a b) ≡ max (capped_depth a) (capped_depth b)
capped_max a b = omega arith

depth_max : (room a b : ℕ) → depth_in room (max a b) ≡ max (depth_in room a) (depth_in room b)
depth_max room a b =
    let h : min room (max a b) ≡ max (min room a) (min room b) = omega arith in
    ap capped_depth h ∙ capped_max (min room a) (min room b)

pub max_assoc : (a b c : ℕ) → max a (max b c) ≡ max (max a b) c
max_assoc a b c = omega arith

-- ---- what readers make of readings, on answers

pub minus_answer : (room : ℕ) (x : Reading) → fronted_read (answer_in room x) ≡ answer_in room (mapped minus x)
unfolding depth_of
minus_answer room bad = refl
minus_answer room (good f u) = ap (λ k. Good u k (depth_in room (depth_of f))) (sort_minus room f)

pub complement_answer : (room : ℕ) (x : Reading) → fronted_read (answer_in room x) ≡ answer_in room (mapped complement x)
unfolding depth_of
complement_answer room bad = refl
complement_answer room (good f u) = ap (λ k. Good u k (depth_in room (depth_of f))) (sort_complement room f)

pub joined_answer : (room : ℕ) (op : Operator) (k : Sort) (d : ℕ) (f : Formula) (x : Reading) → k ≡ sort_in room f
    → d ≡ depth_in room (depth_of f) → joined_read op k d (answer_in room x) ≡ answer_in room (mapped (two_sided op f) x)
unfolding depth_of
joined_answer room op k d f bad p q = refl
joined_answer room op k d f (good g u) p q =
    rw (p, q) (ap (λ j. Good u j (max (depth_in room (depth_of f)) (depth_in room (depth_of g)))) (sort_joined room op f g)
    ∙ ap (Good u (sort_in room (two_sided op f g))) (sym (depth_max room (depth_of f) (depth_of g))))

pub closed_answer : (room : ℕ) (s : List ℕ) (x : Reading) → closed_read s (answer_in room x) ≡ answer_in (room + 1) (closed s x)
unfolding depth_of
closed_answer room s bad = refl
closed_answer room s (good f u) =
    by_test (is_symbol Close u.token)
    (λ e. rw e (ap (λ k. Good (after s u) k (deeper (depth_in room (depth_of f)))) (sym (sort_inside room f))
    ∙ ap (Good (after s u) (sort_in (room + 1) (inside f))) (deeper_in room (depth_of f))))
    (λ e. rw e)

-- where there is no room
pub deep_answer : (x : Reading) → deep_read (skimmed_of x) ≡ answer_in 0 x
deep_answer bad = refl
deep_answer (good f u) =
    let e : depth_in 0 (depth_of f) ≡ 0 = omega arith in
    rw (le-ltb (depth_of f) 0 (omega arith), e)

-- ---- arguments

pub kept_none : (room : ℕ) → Kept room sorts.Zero 0 none
unfolding sorts_in depth_of
kept_none room = record { sorted = refl; deep = omega arith }

pub kept_also : (types types' : Sorts) (depth depth' : ℕ) (k : Sort) (d : ℕ)
    → ((l : List Sort) → types ≡ sorts_by l → types' ≡ sorts_by (l ++ (k ∷ []))) → depth' ≡ max depth d
    → (room : ℕ) (a : Arguments) (f : Formula) → Kept room types depth a → k ≡ sort_in room f → d ≡ depth_in room (depth_of f)
    → Kept room types' depth' (also a f)
unfolding sorts_in depth_of
kept_also types types' depth depth' k d p q room a f kept ek ed = record {
  sorted = rw ek at (p (sorts_in room a) kept.sorted);
  deep = (rw (kept.deep, ed) at q) ∙ sym (depth_max room (deepest_of a) (depth_of f));
}

-- there are as many types as arguments
count_sorts : (room : ℕ) (a : Arguments) → count_of a ≡ length (sorts_in room a)
unfolding count_of sorts_in
count_sorts room none = refl
count_sorts room (also a f) = rw (length-append, ← (count_sorts room a)) (omega arith)

fit_none : (f : Function) (l : List Sort) → None ≡ fit_of f l → takes f (length l) ≡ false
fit_none f l e = by_test (takes f (length l)) (λ t. let h = rw t at e in cc) (λ t. t)

pub record Fitted (f : Function) (l : List Sort) (k : Sort) : Type 0 where
  pub taken : takes f (length l) ≡ true
  pub sort : k ≡ call_sort f (length l) l

fit_gives : (f : Function) (l : List Sort) (k : Sort) → Some k ≡ fit_of f l → Fitted f l k
fit_gives f l k e =
    by_test (takes f (length l))
    (λ t. let h = rw t at e in record { taken = t; sort = cc })
    (λ t. let h = rw t at e in never (cc))

module _ (room : ℕ) (s : List ℕ) (f : Function) (a : Arguments) (u : Scanned) where
  pub listed_open : false ≡ is_symbol Close u.token → None ≡ answer_in (room + 1) (listed_at s f a u)
  listed_open e = rw (← e)

  pub listed_misfit : true ≡ is_symbol Close u.token → None ≡ fit_of f (sorts_in room a) → None ≡ answer_in (room + 1) (listed_at s f a u)
  listed_misfit e g = rw (← e, count_sorts room a, fit_none f (sorts_in room a) g)

  pub listed_fit : (types : Sorts) (depth : ℕ) (k : Sort) → true ≡ is_symbol Close u.token → Kept room types depth a
      → Some k ≡ fit_of f (sorts_in room a) → Good (after s u) k (deeper depth) ≡ answer_in (room + 1) (listed_at s f a u)
  unfolding depth_of
  listed_fit types depth k e kept g =
      let h = fit_gives f (sorts_in room a) k g in
      let n : count_of a ≡ length (sorts_in room a) = count_sorts room a in
      let t : takes f (count_of a) ≡ true = ap (takes f) n ∙ h.taken in
      let c : k ≡ sort_in (room + 1) (call f a) =
      h.sort ∙ ap (λ m. call_sort f m (sorts_in room a)) (sym n) ∙ sort_call room f a (few f (count_of a) t).0 in
      rw (← e, t) (ap (λ j. Good (after s u) j (deeper depth)) c
      ∙ ap (λ d. Good (after s u) (sort_in (room + 1) (call f a)) (deeper d)) kept.deep
      ∙ ap (Good (after s u) (sort_in (room + 1) (call f a))) (deeper_in room (deepest_of a)))
