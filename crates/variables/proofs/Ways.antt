-- Which way storing goes: a name stands among the entries in use and its value is set, or it is new and goes after them.
use Rattle.std.specs.Prelude.{None, Option, Some, ℕ}
use mathlib.Core.Path.{◌≡◌, refl, ap, ◌∙◌}
use mathlib.Core.List.{List, [], ◌∷◌, ◌++◌}
use Prim.Native.Nat.{ℕ, zero, suc, ◌+◌, ◌-◌, ◌*◌, ◌≤◌, ◌<◌}
use native.Mathlib.Omega.{arith}
use borrow.Author.Tests.{le-leb, lt-leb}
use lib.ListN.{length, drop}
use lib.Seq.{drop-drop}
use Rattle.words.proofs.Choices.{by_test}
use Rattle.words.specs.Names.{Telling, name_width, alike}
use Rattle.space.proofs.Bounds.{by_bound}
use Rattle.variables.specs.bridge.Memory.{Absent, none, also, number_appended, number_replaced, number_stored, string_appended, string_replaced, string_stored, space_replaced, space_stored}
use Rattle.variables.specs.Tables.{names_from, names_in, slot_from, slot_in}
use Rattle.variables.specs.declared.tables.Numbers.{Numbers}
use Rattle.variables.specs.declared.tables.Strings.{Strings}
use Rattle.variables.specs.Variables.{most_variables}
use Rattle.variables.proofs.Lookups.{names_length, First, here, later, slot_first}
use Rattle.whole.proofs.Never.{never}

-- ---- names that are not among others

-- the first entry with a name is among the front ones
first_within : {name : Telling} {i : ℕ} (a b : List Telling) → First name (a ++ b) i → i < length a → First name a i
first_within [] b f h = absurd (omega arith)
first_within (n ∷ a) b (here e) h = here e
first_within (n ∷ a) b (later e f) h = later e (first_within a b f (omega arith))

-- or it is after them, and none of them has it
first_past : {name : Telling} {i : ℕ} (a b : List Telling) → First name (a ++ b) i → length a ≤ i → Absent name a
first_past [] b f h = none
first_past (n ∷ a) b (here e) h = absurd (omega arith)
first_past (n ∷ a) b (later e f) h = also e (first_past a b f (omega arith))

missing_absent : (k : ℕ) (a b : List Telling) (name : Telling) → slot_from k (a ++ b) name ≡ None → Absent name a
unfolding slot_from
missing_absent k [] b name e = none
missing_absent k (n ∷ a) b name e =
    by_test (alike n name)
    (λ t. let s : Some k ≡ None = rw t at e in never (cc))
    (λ t. also t (missing_absent (suc k) a b name (rw t at e)))

-- ---- the entries in use, and those after them

pub names_split : (n m : ℕ) (names : List ℕ) → names_from (n + m) names ≡ names_from n names ++ names_from m (drop (name_width * n) names)
unfolding names_from
names_split zero m names = let e : 0 + m ≡ m = omega arith in rw e
names_split (suc n) m names =
    let e : suc n + m ≡ suc (n + m) = omega arith in
    let f : name_width * suc n ≡ name_width + name_width * n = omega arith in
    rw (e, f, names_split n m (drop name_width names), drop-drop (name_width * n) name_width names)

pub names_used : (count : ℕ) (names : List ℕ) → count ≤ most_variables
    → names_in names ≡ names_from count names ++ names_from (most_variables - count) (drop (name_width * count) names)
unfolding names_in
names_used count names h = let e : most_variables ≡ count + (most_variables - count) = omega arith in ap (λ n. names_from n names) e ∙ names_split count (most_variables - count) names

-- ---- the ways

-- no entry in use was found
abbrev pub Unfound : ℕ → Option ℕ → Type 0
Unfound count (Some i) = count ≤ i
Unfound count None = Unit {0}

pub data Way (names : List ℕ) (count : ℕ) (name : Telling) : Type 0 where
  old : (i : ℕ) → slot_in names name ≡ Some i → i < count → First name (names_from count names) i → Way names count name
  new : (x : Option ℕ) → slot_in names name ≡ x → Unfound count x → Absent name (names_from count names) → Way names count name

module _ (names : List ℕ) (count : ℕ) (name : Telling) (few : count ≤ most_variables) where
  after : List Telling
  after = names_from (most_variables - count) (drop (name_width * count) names)

  way_by : (x : Option ℕ) → slot_in names name ≡ x → Way names count name
  unfolding after
  way_by None e =
      new None e tt (missing_absent 0 (names_from count names) after name (rw (names_used count names few) at e))
  way_by (Some i) e =
      let l = names_length count names in
      let f : First name (names_from count names ++ after) i = rw (names_used count names few) at (slot_first names name i e) in
      by_bound count i
      (λ h. new (Some i) e h (first_past (names_from count names) after f (omega arith)))
      (λ h. old i e h (first_within (names_from count names) after f (omega arith)))

  pub way : Way names count name
  way = way_by (slot_in names name) refl

-- ---- what is stored by each

module _ (n : Numbers) (name : Telling) (w : ℕ) where
  pub number_old : (i : ℕ) → slot_in n.names name ≡ Some i → i < n.count → number_stored n name w ≡ number_replaced n i w
  number_old i e h = rw (e, lt-leb n.count i h)

  pub number_new : (x : Option ℕ) → slot_in n.names name ≡ x → Unfound n.count x → number_stored n name w ≡ number_appended n name w
  number_new None e u = rw e
  number_new (Some i) e u = rw (e, le-leb n.count i u)

module _ (t : Strings) (used : ℕ) (name : Telling) (len : ℕ) where
  pub string_old : (i : ℕ) → slot_in t.names name ≡ Some i → i < t.count → string_stored t used name len ≡ string_replaced t used i len
  string_old i e h = rw (e, lt-leb t.count i h)

  pub string_new : (x : Option ℕ) → slot_in t.names name ≡ x → Unfound t.count x → string_stored t used name len ≡ string_appended t used name len
  string_new None e u = rw e
  string_new (Some i) e u = rw (e, le-leb t.count i u)

  pub space_old : (space : List ℕ) (i : ℕ) → slot_in t.names name ≡ Some i → i < t.count
      → space_stored t used name space len ≡ space_replaced t.lengths used i space len
  space_old space i e h = rw (e, lt-leb t.count i h)

  pub space_new : (space : List ℕ) (x : Option ℕ) → slot_in t.names name ≡ x → Unfound t.count x → space_stored t used name space len ≡ space
  space_new space None e u = rw e
  space_new space (Some i) e u = rw (e, le-leb t.count i u)
