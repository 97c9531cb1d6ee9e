-- Names in a table, blank two of which are one variable's: each is found at its own entry.
use Rattle.std.specs.Prelude.{Some}
use mathlib.Core.Path.{◌≡◌, refl, sym, ap, ◌∙◌}
use mathlib.Core.Bool.{true, false, false≢true}
use mathlib.Core.List.{List, [], ◌∷◌, ◌++◌}
use Prim.Native.Nat.{ℕ, zero, suc, ◌+◌, ◌*◌, ◌≤◌, ◌<◌}
use native.Mathlib.Omega.{arith}
use lib.ListN.{length, drop, get_or}
use lib.Seq.{drop-drop}
use Rattle.words.proofs.Choices.{by_test}
use Rattle.words.proofs.Tellings.{told_again, same_self, same_is}
use Rattle.words.specs.Spellings.{same_bytes}
use Rattle.words.specs.Names.{Telling, name_width, telling, alike}
use Rattle.variables.specs.Tables.{names_from, names_in, slot_from, slot_in}
use Rattle.variables.specs.Variables.{most_variables}
use Rattle.variables.specs.bridge.Memory.{Tells, name_at, Absent, none, also, Apart, empty, joining}
use Rattle.variables.proofs.Lookups.{First, here, later, names_length, slot_first}
use Rattle.variables.proofs.Ways.{names_used}

-- ---- names that are one variable's tell the same

pub alike_self : (a : Telling) → alike a a ≡ true
alike_self a = same_self (telling a)

alike_told : (a b : Telling) → alike a b ≡ true → telling a ≡ telling b
alike_told a b e = same_is (telling a) (telling b) e

-- and are the same, where all of them tells
pub alike_is : (a b : Telling) → Tells a → Tells b → alike a b ≡ true → a ≡ b
alike_is a b own other e = sym own ∙ alike_told a b e ∙ other

-- a name and what tells of it are one variable's
pub alike-telling : (a b : Telling) → alike (telling a) b ≡ alike a b
alike-telling a b = ap (λ t. same_bytes t (telling b)) (told_again a)

alike_not : (a b : Telling) → alike a b ≡ false → alike b a ≡ false
alike_not a b e =
    by_test (alike b a) (λ t. absurd (false≢true (sym e ∙ ap (same_bytes (telling a)) (alike_told b a t) ∙ alike_self a))) (λ t. t)

-- ---- one name more

absent_more : {x : Telling} (ns : List Telling) (y : Telling) → Absent x ns → alike y x ≡ false → Absent x (ns ++ (y ∷ []))
absent_more [] y none e = also e none
absent_more (n ∷ ns) y (also f a) e = also f (absent_more ns y a e)

pub apart_more : (ns : List Telling) (y : Telling) → Apart ns → Absent y ns → Apart (ns ++ (y ∷ []))
apart_more [] y empty none = joining none empty
apart_more (n ∷ ns) y (joining f a) (also e b) = joining (absent_more ns y f (alike_not n y e)) (apart_more ns y a b)

-- ---- the first entry with a name

first_among : {name : Telling} {ns : List Telling} {i : ℕ} (more : List Telling) → First name ns i → First name (ns ++ more) i
first_among more (here e) = here e
first_among more (later e f) = later e (first_among more f)

first_from : {name : Telling} (k : ℕ) {ns : List Telling} {i : ℕ} → First name ns i → slot_from k ns name ≡ Some (k + i)
unfolding slot_from
first_from k (here e) = let z : k + 0 ≡ k = omega arith in rw (e, z)
first_from k (later {i = i} e f) = let z : k + suc i ≡ suc k + i = omega arith in rw (e, z) (first_from (suc k) f)

absent_at : {x : Telling} (ns : List Telling) (i : ℕ) (blank name : Telling) → Absent x ns → i < length ns → alike (get_or ns i blank) name ≡ true → alike name x ≡ false
absent_at [] i blank name none h e = absurd (omega arith)
absent_at {x} (n ∷ ns) zero blank name (also f a) h e = sym (ap (λ t. same_bytes t (telling x)) (alike_told n name e)) ∙ f
absent_at (n ∷ ns) (suc i) blank name (also f a) h e = absent_at ns i blank name a (omega arith) e

-- the entry that has it, where blank two are one variable's
first_own : (ns : List Telling) (i : ℕ) (blank name : Telling) → Apart ns → i < length ns → alike (get_or ns i blank) name ≡ true → First name ns i
first_own [] i blank name a h e = absurd (omega arith)
first_own (n ∷ ns) zero blank name (joining f a) h e = here e
first_own (n ∷ ns) (suc i) blank name (joining f a) h e =
    later (alike_not name n (absent_at ns i blank name f (omega arith) e)) (first_own ns i blank name a (omega arith) e)

pub first_has : {name : Telling} {ns : List Telling} {i : ℕ} (blank : Telling) → First name ns i → alike (get_or ns i blank) name ≡ true
first_has blank (here e) = e
first_has blank (later e f) = first_has blank f

-- ---- the names of a table

pub name_is : (n : ℕ) (names : List ℕ) (i : ℕ) (blank : Telling) → i < n → get_or (names_from n names) i blank ≡ name_at names i
unfolding names_from
name_is zero names i blank h = absurd (omega arith)
name_is (suc n) names zero blank h = let z : name_width * 0 ≡ 0 = omega arith in refl
name_is (suc n) names (suc i) blank h =
    let a : name_width + name_width * i ≡ name_width * suc i = omega arith in
    name_is n (drop name_width names) i blank (omega arith) ∙ ap telling (drop-drop (name_width * i) name_width names ∙ ap (λ k. drop k names) a)

module _ (names : List ℕ) (count : ℕ) (few : count ≤ most_variables) where
  -- the name of an entry in use is found there, and blank other entry in use has it
  pub name_slot : Apart (names_from count names) → (i : ℕ) (name : Telling) → i < count → alike (name_at names i) name ≡ true
      → slot_in names name ≡ Some i
  name_slot a i name h e =
      let l = names_length count names in
      let f = first_own (names_from count names) i name name a (omega arith) (rw (name_is count names i name h) e) in
      let z : 0 + i ≡ i = omega arith in
      rw (names_used count names few) (first_from 0 (first_among _ f) ∙ ap Some z)

-- and the entry that is found has it
pub slot_name : (names : List ℕ) (i : ℕ) (name : Telling) → i < most_variables → slot_in names name ≡ Some i → alike (name_at names i) name ≡ true
unfolding names_in
slot_name names i name h e = rw (name_is most_variables names i name h) at (first_has name (slot_first names name i e))
