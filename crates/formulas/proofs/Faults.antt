-- An error on the way is the whole formula's: of a left side, and of the arguments so far.
use mathlib.Core.Path.{◌≡◌, refl}
use mathlib.Core.Bool.{true}
use mathlib.Core.List.{List}
use Prim.Native.Nat.{ℕ, zero, suc, ◌≤◌, ◌<◌}
use native.Mathlib.Omega.{arith}
use Rattle.whole.specs.declared.arithmetic.Operator.{Operator}
use Rattle.whole.specs.declared.errors.Error.{Error}
use Rattle.words.specs.declared.symbols.Function.{Function}
use Rattle.words.specs.declared.symbols.Scanned.{Scanned}
use Rattle.words.specs.declared.symbols.Sign.TheVariants.{Close, Comma}
use Rattle.words.proofs.Choices.{by_test}
use Rattle.grammar.specs.Tests.{is_symbol}
use Rattle.grammar.specs.Trees.{Formula, two_sided, call, Arguments, also}
use Rattle.grammar.specs.Functions.{takes}
use Rattle.grammar.specs.Formulas.{right_level, tight_operator, Reading, bad, good, mapped, after, count_of, called, enough, formula_at, climb_at, arguments_at}
use Rattle.skimming.specs.bridge.Remaining.{climb_of, arguments_of}
use Rattle.grammar.specs.declared.wanting.Want.{Want}
use Rattle.skimming.proofs.Grammar.{by_found}
use Rattle.expressions.proofs.Views.{list_view}
use Rattle.variables.specs.Strings.{Room, Outcome, fault}
use Rattle.variables.specs.Variables.{Variables}
use Rattle.operators.specs.Values.{value_of, values_of, stopped}

-- ---- a left side

-- what a formula that reads comes to, of whatever does
abbrev Comes : Reading → Variables → Room → Outcome → Type 0
Comes bad vars room o = Unit {0}
Comes (good f u) vars room o = value_of f vars room ≡ o

module _ (vars : Variables) (room : Room) (e : Error) (left : Room) where
  sides_fault : (op : Operator) (g : Formula) (x : Reading) → value_of g vars room ≡ fault e left
      → Comes (mapped (two_sided op g) x) vars room (fault e left)
  unfolding value_of
  sides_fault op g bad h = tt
  sides_fault op g (good f u) h = rw h refl

  climb_comes : (n : ℕ) (s : List ℕ) (level : ℕ) (x : Reading) → Comes x vars room (fault e left)
      → Comes (climb_at n s level x) vars room (fault e left)
  unfolding formula_at
  climb_comes zero s level x h = tt
  climb_comes (suc n) s level bad h = tt
  climb_comes (suc n) s level (good g t) h =
      by_found (tight_operator level t.token)
      (λ op o.
      let y = formula_at n s (right_level op) (after s t) in
      rw o (climb_comes n s level (mapped (two_sided op g) y) (sides_fault op g y h)))
      (λ o. rw o h)

pub climb_fault : (s : List ℕ) (level : ℕ) (g : Formula) (t : Scanned) {f : Formula} {u : Scanned} → climb_of s level (good g t) ≡ good f u
    → (vars : Variables) (room : Room) (e : Error) (left : Room) → value_of g vars room ≡ fault e left → value_of f vars room ≡ fault e left
unfolding climb_of
climb_fault s level g t {f} {u} c vars room e left h =
    let k : value_of f vars room ≡ fault e left = rw c at (climb_comes vars room e left (enough s) s level (good g t) h) in k

-- ---- arguments

-- a call whose arguments begin with some: what stops those stops them all
record Extends (g : Function) (a : Arguments) (f : Formula) : Type 0 where
  all : Arguments
  is : f ≡ call g all
  takes_them : takes g (count_of all) ≡ true
  longer : count_of a ≤ count_of all
  stops : (ws : List Want) (vars : Variables) (room : Room) (e : Error) (left : Room) → values_of a ws vars room ≡ stopped e left
      → values_of all ws vars room ≡ stopped e left

abbrev Within : Function → Arguments → Reading → Type 0
Within g a bad = Unit {0}
Within g a (good f u) = Extends g a f

module _ (g : Function) (a : Arguments) where
  -- those without the last
  fewer : (x : Formula) (r : Reading) → Within g (also a x) r → Within g a r
  unfolding value_of count_of
  fewer x bad h = tt
  fewer x (good f u) h = record {
    all = h.all;
    is = h.is;
    takes_them = h.takes_them;
    longer = omega (arith, h.longer);
    stops = λ ws vars room e left p. h.stops ws vars room e left (rw p refl);
  }

  called_within : (t : Scanned) → Within g a (called g a t)
  called_within t =
      by_test (takes g (count_of a))
      (λ e. rw e (record { all = a; is = refl; takes_them = e; longer = omega arith; stops = λ ws vars room e left p. p }))
      (λ e. rw e tt)

-- one more argument, given the same of those after it
more_within : (n : ℕ) (s : List ℕ) (g : Function) (a : Arguments) (x : Formula) (t : Scanned)
    → Within g (also a x) (arguments_at n s g (also a x) (formula_at n s 0 (after s t))) → Within g (also a x) (arguments_at (suc n) s g a (good x t))
unfolding formula_at
more_within n s g a x t h =
    by_test (is_symbol Comma t.token)
    (λ e. rw e h)
    λ e. rw e (by_test (is_symbol Close t.token) (λ c. rw c (called_within g (also a x) (after s t))) (λ c. rw c tt))

within_at : (n : ℕ) (s : List ℕ) (g : Function) (a : Arguments) (x : Reading) → Within g a (arguments_at n s g a x)
unfolding formula_at
within_at zero s g a x = tt
within_at (suc n) s g a bad = tt
within_at (suc n) s g a (good x t) =
    fewer g a x (arguments_at (suc n) s g a (good x t))
    (more_within n s g a x t (within_at n s g (also a x) (formula_at n s 0 (after s t))))

last_within : (n : ℕ) (s : List ℕ) (g : Function) (a : Arguments) (x : Formula) (t : Scanned)
    → Within g (also a x) (arguments_at n s g a (good x t))
unfolding formula_at
last_within zero s g a x t = tt
last_within (suc n) s g a x t = more_within n s g a x t (within_at n s g (also a x) (formula_at n s 0 (after s t)))

-- a call, of more arguments than those, as many as the function takes
pub record Called (g : Function) (a : Arguments) (f : Formula) : Type 0 where
  pub b : Arguments
  pub is : f ≡ call g b
  pub takes_them : takes g (count_of b) ≡ true
  pub longer : count_of a < count_of b

module _ (s : List ℕ) (g : Function) (a : Arguments) where
  extends : (x : Formula) (t : Scanned) {f : Formula} {u : Scanned} → arguments_of s g a (good x t) ≡ good f u → Extends g (also a x) f
  unfolding arguments_of
  extends x t {f} {u} c = let h : Extends g (also a x) f = rw c at (last_within (enough s) s g a x t) in h

  pub arguments_fault : (x : Formula) (t : Scanned) {b : Arguments} {u : Scanned} → arguments_of s g a (good x t) ≡ good (call g b) u
      → (ws : List Want) (vars : Variables) (room : Room) (e : Error) (left : Room) → values_of (also a x) ws vars room ≡ stopped e left
      → values_of b ws vars room ≡ stopped e left
  arguments_fault x t {b} c ws vars room e left h =
      let k = extends x t c in let i = k.is in let j : b ≡ k.all = cc in rw j (k.stops ws vars room e left h)

  pub arguments_call : (x : Reading) {f : Formula} {u : Scanned} → arguments_of s g a x ≡ good f u → Called g a f
  unfolding count_of
  arguments_call x {f} c =
      let l = list_view s g a x c in let k = extends l.of l.at l.lists in
      record { b = k.all; is = k.is; takes_them = k.takes_them; longer = omega (arith, k.longer) }
