-- The types of a function's arguments: how they are packed, and which lists of them a function takes.
use Rattle.std.specs.Prelude.{None, Option, Some}
use mathlib.Core.Path.{◌≡◌, refl, ◌∙◌, ap}
use mathlib.Core.Bool.{Bool, true, false, ◌&&◌, false≢true}
use mathlib.Core.List.{List, [], ◌∷◌, ◌++◌}
use Prim.Native.Nat.{ℕ, ◌≤◌}
use native.Mathlib.Omega.{arith}
use borrow.Author.Tests.{leb-true, eqb-true}
use lib.Dec.{eqb, leb}
use lib.ListN.{length}
use Rattle.words.proofs.Choices.{by_test, both}
use Rattle.words.specs.declared.symbols.Function.{Function}
use Rattle.words.specs.declared.symbols.Function.TheVariants.{Len, Asc, Chr, Left, Right, Mid, Space, String, Instr, Str, Hex, Val, Abs, Sgn, Fre}
use Rattle.grammar.specs.Functions.{forms_of, form_for, any_for, takes, wants}
use Rattle.expressions.specs.Types.{meets, all_meet, call_gives}
use Rattle.grammar.specs.bridge.Answers.{packed_wants, wanted_of}
use Rattle.expressions.specs.bridge.Answers.{sorts_by, fit_of}
use Rattle.grammar.specs.declared.wanting.Want.{Want}
use Rattle.grammar.specs.declared.wanting.Want.TheVariants as want
use Rattle.grammar.specs.declared.wanting.Wanted.{Wanted}
use Rattle.grammar.specs.declared.wanting.Wanted.TheVariants as wanted
use Rattle.expressions.specs.declared.calls.Sorts.{Sorts}
use Rattle.expressions.specs.declared.calls.Sorts.TheVariants as sorts
use Rattle.expressions.specs.declared.sorts.Sort.{Sort}
use Rattle.expressions.specs.declared.sorts.Sort.TheVariants.{Wrong}

-- no function wants what is wrong
pub wrong_meets : (w : Want) → meets w Wrong ≡ false
wrong_meets want.Whole = refl
wrong_meets want.Text = refl
wrong_meets want.Either = refl

-- ---- packed types

-- one more
abbrev pub with_sort : Sorts → Sort → Sorts
with_sort sorts.Zero s = sorts.One s
with_sort (sorts.One a) s = sorts.Two a s
with_sort (sorts.Two a b) s = sorts.Three a b s
with_sort (sorts.Three a b c) s = sorts.Many
with_sort sorts.Many s = sorts.Many

pub one_more : (l : List Sort) (s : Sort) → sorts_by (l ++ (s ∷ [])) ≡ with_sort (sorts_by l) s
one_more [] s = refl
one_more (a ∷ []) s = refl
one_more (a ∷ b ∷ []) s = refl
one_more (a ∷ b ∷ c ∷ []) s = refl
one_more (a ∷ b ∷ c ∷ d ∷ l) s = refl

-- ---- the numbers of arguments that functions take

-- each list has one to three
abbrev short : List (List Want) → Bool
short [] = true
short (w ∷ ws) = leb 1 (length w) && (leb (length w) 3 && short ws)

all_short : (f : Function) → short (forms_of f) ≡ true
all_short Len = refl
all_short Asc = refl
all_short Chr = refl
all_short Left = refl
all_short Right = refl
all_short Mid = refl
all_short Space = refl
all_short String = refl
all_short Instr = refl
all_short Str = refl
all_short Hex = refl
all_short Val = refl
all_short Abs = refl
all_short Sgn = refl
all_short Fre = refl

short_any : (forms : List (List Want)) (n : ℕ) → short forms ≡ true → any_for forms n ≡ true → (1 ≤ n) × (n ≤ 3)
unfolding any_for
short_any [] n s e = absurd (false≢true e)
short_any (w ∷ ws) n s e =
    let m = both _ _ s in
    let k = both _ _ m.1 in
    by_test (eqb (length w) n)
    (λ t. omega (arith, eqb-true (length w) n t, leb-true 1 (length w) m.0, leb-true (length w) 3 k.0))
    (λ t. short_any ws n k.1 (rw t at e))

pub few : (f : Function) (n : ℕ) → takes f n ≡ true → (1 ≤ n) × (n ≤ 3)
few f n e = short_any (forms_of f) n (all_short f) e

-- a function takes no other number of them
pub none_fits : (f : Function) (l : List Sort) → (1 ≤ length l → length l ≤ 3 → ⊥) → fit_of f l ≡ None
none_fits f l n = by_test (takes f (length l)) (λ e. let k = few f (length l) e in absurd (n k.0 k.1)) (λ e. rw e)

-- so how arguments fit is told by their packed types
abbrev pub fit_by : Function → Sorts → Option Sort
fit_by f sorts.Zero = None
fit_by f (sorts.One a) = fit_of f (a ∷ [])
fit_by f (sorts.Two a b) = fit_of f (a ∷ b ∷ [])
fit_by f (sorts.Three a b c) = fit_of f (a ∷ b ∷ c ∷ [])
fit_by f sorts.Many = None

pub fit_packed : (f : Function) (l : List Sort) → fit_of f l ≡ fit_by f (sorts_by l)
fit_packed f [] = none_fits f [] (λ h k. omega arith)
fit_packed f (a ∷ []) = refl
fit_packed f (a ∷ b ∷ []) = refl
fit_packed f (a ∷ b ∷ c ∷ []) = refl
fit_packed f (a ∷ b ∷ c ∷ d ∷ l) = none_fits f (a ∷ b ∷ c ∷ d ∷ l) (λ h k. omega arith)

-- ---- what a function wants of them

-- a list that is taken is as long as it should be
form_length : (forms : List (List Want)) (n : ℕ) → any_for forms n ≡ true → length (form_for forms n) ≡ n
unfolding any_for form_for
form_length [] n e = absurd (false≢true e)
form_length (w ∷ ws) n e =
    by_test (eqb (length w) n) (λ t. rw t (eqb-true (length w) n t)) (λ t. rw t (form_length ws n (rw t at e)))

-- how many are wanted, and what
abbrev pub tagged : Wanted → ℕ
tagged w = denote.Enum.Declared.tag_of Rattle.grammar.specs.contracts.wanting.Wanted.the_type w

abbrev pub unpacked : Wanted → List Want
unpacked wanted.NoForm = []
unpacked (wanted.One a) = a ∷ []
unpacked (wanted.Two a b) = a ∷ b ∷ []
unpacked (wanted.Three a b c) = a ∷ b ∷ c ∷ []

packed_count : (ws : List Want) → length ws ≤ 3 → tagged (packed_wants true ws) ≡ length ws
packed_count [] h = refl
packed_count (a ∷ []) h = refl
packed_count (a ∷ b ∷ []) h = refl
packed_count (a ∷ b ∷ c ∷ []) h = refl
packed_count (a ∷ b ∷ c ∷ d ∷ ws) h = absurd (omega arith)

packed_back : (t : Bool) (ws : List Want) → 1 ≤ tagged (packed_wants t ws) → (t ≡ true) × (ws ≡ unpacked (packed_wants t ws))
packed_back false ws h = absurd (omega arith)
packed_back true [] h = absurd (omega arith)
packed_back true (a ∷ []) h = (refl, refl)
packed_back true (a ∷ b ∷ []) h = (refl, refl)
packed_back true (a ∷ b ∷ c ∷ []) h = (refl, refl)
packed_back true (a ∷ b ∷ c ∷ d ∷ ws) h = absurd (omega arith)

module _ (f : Function) (l : List Sort) {w : Wanted} (told : w ≡ wanted_of f (length l)) where
  -- another number is wanted
  pub other_wanted : (tagged w ≡ length l → ⊥) → fit_of f l ≡ None
  other_wanted n =
      by_test (takes f (length l))
      (λ e.
      let k = form_length (forms_of f) (length l) e in
      let c = packed_count (wants f (length l)) (omega (arith, few f (length l) e)) in
      absurd (n (ap tagged told ∙ rw e (c ∙ k))))
      (λ e. rw e)

  -- that number is
  pub all_wanted : 1 ≤ tagged w → fit_of f l ≡ Some (call_gives f (all_meet (unpacked w) l))
  all_wanted h =
      let p = packed_back (takes f (length l)) (wants f (length l)) (rw told at h) in
      rw (p.0, p.1, ← told)
