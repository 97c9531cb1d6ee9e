-- What the table of strings and the space hold after one was stored is what assignment makes of the variables.
use mathlib.Core.Path.{◌≡◌, refl, sym, ap, ◌∙◌}
use mathlib.Core.Bool.{true, false, not, false≢true}
use mathlib.Core.List.{List, [], ◌∷◌, ◌++◌, append_assoc}
use Prim.Native.Nat.{ℕ, zero, suc, ◌+◌, ◌-◌, ◌*◌, ◌≤◌, ◌<◌}
use native.Mathlib.Omega.{arith}
use borrow.Author.Tests.{le-leb, lt-leb}
use lib.ListN.{length, take, drop, get_or, set, replicate, length-set, length-drop, get_or-replicate}
use lib.Seq.{length-take-le, take-append_seam, drop-append_seam, take_at, drop_at, take-add, drop-drop, get_or-drop, get_or-set_same, take-set-le}
use Rattle.words.specs.Names.{Telling, name_width}
use Rattle.space.proofs.Bounds.{by_bound}
use Rattle.variables.specs.Variables.{set_string, has_string, strings_full, most_variables}
use Rattle.variables.specs.bridge.Memory.{Tells, StringStored, Absent, none, also, strings_of, strings_in, strings_held, TidyStrings, with_name, string_replaced, string_stored, space_replaced, space_stored}
use Rattle.variables.specs.Tables.{names_long, names_from, sum_of}
use Rattle.variables.specs.declared.tables.Strings.{Strings}
use Rattle.variables.proofs.Lookups.{names_length, First, here, later, sum_within, strings_kept}
use Rattle.variables.proofs.Ways.{Way, old, new, way, string_old, string_new, space_old, space_new}
use Rattle.variables.proofs.Holding.{strings_same, string_count, used_sum}
use Rattle.variables.proofs.Naming.{named-length, names_more, names_filled, names_after, values_after, values_behind}
use Rattle.variables.proofs.Replacing.{bytes-length, replaced_front, replaced_length}

-- ---- the variables

module _ {name : Telling} where
  absent_string : {ns : List Telling} → Absent name ns → (ls space : List ℕ) → has_string (strings_in ns ls space) name ≡ false
  unfolding has_string strings_in
  absent_string none ls space = refl
  absent_string (also e a) [] space = refl
  absent_string (also e a) (l ∷ ls) space = rw e (absent_string a ls (drop l space))

  first_string : {ns : List Telling} {i : ℕ} → First name ns i → (ls space : List ℕ) → length ns ≤ length ls
      → has_string (strings_in ns ls space) name ≡ true
  unfolding has_string strings_in
  first_string (here e) [] space h = absurd (omega arith)
  first_string (here e) (l ∷ ls) space h = rw e
  first_string (later e f) [] space h = absurd (omega arith)
  first_string (later e f) (l ∷ ls) space h = rw e (first_string f ls (drop l space) (omega arith))

  -- a new one goes after the others
  absent_set : {ns : List Telling} → Absent name ns → (ls space b : List ℕ) → length ns ≤ length ls
      → set_string (strings_in ns ls space) name b ≡ strings_in ns ls space ++ (record { name = name; bytes = b } ∷ [])
  unfolding set_string strings_in
  absent_set none ls space b h = refl
  absent_set (also e a) [] space b h = absurd (omega arith)
  absent_set (also {n = n} e a) (l ∷ ls) space b h =
      rw e (ap (λ vs. record { name = n; bytes = take l space } ∷ vs) (absent_set a ls (drop l space) b (omega arith)))

  -- an old one is set in its place, and those after it follow
  first_set : {ns : List Telling} {i : ℕ} → First name ns i → (ls space b : List ℕ) → length ns ≤ length ls
      → sum_of (take i ls) ≤ length space
      → set_string (strings_in ns ls space) name b
      ≡ strings_in ns (set ls i (length b)) (take (sum_of (take i ls)) space ++ (b ++ drop (sum_of (take i ls) + get_or ls i 0) space))
  unfolding set_string strings_in sum_of
  first_set (here e) [] space b h k = absurd (omega arith)
  first_set (here {n = n} e) (l ∷ ls) space b h k =
      let z : 0 + l ≡ l = omega arith in
      rw (e, z, take-append_seam b (drop l space), drop-append_seam b (drop l space))
  first_set (later e f) [] space b h k = absurd (omega arith)
  first_set (later {n = n} {ns = ns} {i = i} e f) (l ∷ ls) space b h k =
      let d = length-drop l space in
      let a = sum_of (take i ls) in
      let t = length-take-le l space (omega arith) in
      let g : l + a + get_or ls i 0 ≡ l + (a + get_or ls i 0) = omega arith in
      let r = take a (drop l space) ++ (b ++ drop (l + (a + get_or ls i 0)) space) in
      let q : take (l + a) space ++ (b ++ drop (l + (a + get_or ls i 0)) space) ≡ take l space ++ r = rw (take-add l a space, append_assoc) in
      rw (e, g, q, take_at (take l space) r l t, drop_at (take l space) r l t)
      (ap (λ vs. record { name = n; bytes = take l space } ∷ vs)
      (first_set f ls (drop l space) b (omega arith) (omega arith)
      ∙ ap (λ x. strings_in ns (set ls i (length b)) (take a (drop l space) ++ (b ++ x))) (drop-drop (a + get_or ls i 0) l space)))

strings_more : (ns : List Telling) (x : Telling) (ls space : List ℕ) → length ns < length ls
    → strings_in (ns ++ (x ∷ [])) ls space
    ≡ strings_in ns ls space ++ (record { name = x; bytes = take (get_or ls (length ns) 0) (drop (sum_of (take (length ns) ls)) space) } ∷ [])
unfolding strings_in sum_of
strings_more [] x [] space h = absurd (omega arith)
strings_more [] x (l ∷ ls) space h = refl
strings_more (n ∷ ns) x [] space h = absurd (omega arith)
strings_more (n ∷ ns) x (l ∷ ls) space h =
    ap (λ vs. record { name = n; bytes = take l space } ∷ vs)
    (strings_more ns x ls (drop l space) (omega arith) ∙ rw (drop-drop (sum_of (take (length ns) ls)) l space))

-- the sum after one length is set
sum_set : (ls : List ℕ) (i v : ℕ) → i < length ls → sum_of (set ls i v) + get_or ls i 0 ≡ sum_of ls + v
unfolding sum_of
sum_set [] i v h = absurd (omega arith)
sum_set (l ∷ ls) zero v h = omega arith
sum_set (l ∷ ls) (suc i) v h = let e = sum_set ls i v (omega arith) in omega arith

-- the first of some zeros
blank_first : (l : List ℕ) (at n : ℕ) → 0 < n → drop at l ≡ replicate n 0 → get_or l at 0 ≡ 0
blank_first l at n h e =
    let z : at + 0 ≡ at = omega arith in
    sym (ap (λ k. get_or l k 0) z) ∙ sym (get_or-drop at l 0 0) ∙ ap (λ r. get_or r 0 0) e ∙ get_or-replicate n 0 0 0 h

-- ---- the table and the space

-- what is so after a string was stored
pub record StringKept (t : Strings) (used : ℕ) (name : Telling) (space : List ℕ) (len : ℕ) (r : StringStored) (after : List ℕ) : Type 0 where
  -- it is refused exactly when the table is full
  pub ok : r.ok ≡ not (strings_full (strings_held t space) name)
  -- otherwise the variable has it
  pub held : r.ok ≡ true → strings_held r.strings after ≡ set_string (strings_held t space) name (take len (drop used space))
  pub refused : r.ok ≡ false → (r.strings ≡ t) × (r.used ≡ used) × (after ≡ space)
  pub tidy : TidyStrings r.strings
  pub sum : sum_of r.strings.lengths ≡ r.used
  pub within : r.used ≤ length space
  pub long : length after ≡ length space

module _ (t : Strings) (used : ℕ) (name : Telling) (space : List ℕ) (len : ℕ) (y : TidyStrings t) (all : sum_of t.lengths ≡ used)
    (fits : used + len ≤ length space) (own : Tells name) where
  abbrev string_names : List Telling
  string_names = names_from t.count t.names

  lengthy : length string_names ≤ length t.lengths
  lengthy = let l = names_length t.count t.names in omega (arith, y.few, y.lengthy)

  string_replaced_lem : (i : ℕ) → i < t.count → First name string_names i
      → StringKept t used name space len (string_replaced t used i len) (space_replaced t.lengths used i space len)
  string_replaced_lem i h f =
      let ls = t.lengths in
      let start = sum_of (take i ls) in
      let gone = get_or ls i 0 in
      let w = sum_within ls i in
      let s = sum_set ls i len (omega (arith, y.few, y.lengthy)) in
      let n = bytes-length space used start gone len (omega arith) fits in
      let e : sum_of (set ls i len) ≡ used - gone + len = omega arith in
      record {
        ok = rw (first_string f ls space lengthy);
        held = λ _. strings_kept string_names (set ls i len) _ (take start space ++ (take len (drop used space) ++ drop (start + gone) space))
            (rw e (replaced_front space used start gone len (omega arith) fits))
            ∙ ap (λ k. strings_in string_names (set ls i k) (take start space ++ (take len (drop used space) ++ drop (start + gone) space))) (sym n)
            ∙ sym (first_set f ls space (take len (drop used space)) lengthy (omega arith));
        refused = λ z. absurd (false≢true (sym z));
        tidy = record {
          few = y.few;
          named = y.named;
          lengthy = simp length-set y.lengthy;
          filled = y.filled;
          names_blank = y.names_blank;
          lengths_blank = values_behind ls most_variables t.count len y.lengths_blank i h;
        };
        sum = e;
        within = omega arith;
        long = replaced_length space used start gone len (omega arith) fits;
      }

  string_full : most_variables ≤ t.count → Absent name string_names → StringKept t used name space len (record { ok = false; strings = t; used = used }) space
  string_full h a =
      let l : most_variables ≤ length (strings_held t space) = rw (string_count string_names t.lengths space lengthy, names_length) h in
      record {
        ok = rw (absent_string a t.lengths space, le-leb most_variables _ l);
        held = λ e. absurd (false≢true e);
        refused = λ _. (refl, refl, refl);
        tidy = y;
        sum = all;
        within = omega arith;
        long = refl;
      }

  string_more : t.count < most_variables → Absent name string_names
      → StringKept t used name space len
      (record {
        ok = true;
        strings = strings_of (with_name t.names t.count name) (set t.lengths t.count len) (t.count + 1);
        used = used + len;
      })
      space
  string_more h a =
      let ls = t.lengths in
      let l : length (strings_held t space) < most_variables = rw (string_count string_names ls space lengthy, names_length) h in
      let k : name_width * t.count + name_width ≤ length t.names = omega (arith, y.named) in
      let c = names_length t.count t.names in
      let m : t.count < length ls = omega (arith, y.lengthy) in
      let z : get_or ls t.count 0 ≡ 0 = blank_first ls t.count (most_variables - t.count) (omega arith) y.lengths_blank in
      let s = sum_set ls t.count len m in
      let before = take-set-le t.count ls t.count len (omega arith) in
      record {
        ok = rw (absent_string a ls space, lt-leb most_variables _ l);
        held = λ _. rw (names_more t.names t.count name k own)
            (strings_more string_names name (set ls t.count len) space (simp length-set (omega arith))
            ∙ rw (c, get_or-set_same ls t.count len 0 m, before, used_sum t y, all)
            (ap (λ vs. vs ++ (record { name = name; bytes = take len (drop used space) } ∷ []))
            (strings_same string_names (set ls t.count len) ls space (rw c before)))
            ∙ sym (absent_set a ls space (take len (drop used space)) lengthy));
        refused = λ e. absurd (false≢true (sym e));
        tidy = record {
          few = omega arith;
          named = named-length t.names t.count name k ∙ y.named;
          lengthy = simp length-set y.lengthy;
          filled = names_filled t.names t.count name k own y.filled;
          names_blank = names_after t.names t.count name k names_long y.names_blank;
          lengths_blank = values_after ls most_variables t.count len y.lengths_blank;
        };
        sum = omega arith;
        within = fits;
        long = refl;
      }

  string_way : Way t.names t.count name
      → StringKept t used name space len (string_stored t used name len) (space_stored t used name space len)
  string_way (old i e h f) = rw (string_old t used name len i e h, space_old t used name len space i e h) (string_replaced_lem i h f)
  string_way (new x e u a) =
      rw (string_new t used name len x e u, space_new t used name len space x e u)
      (by_bound most_variables t.count (λ h. rw (le-leb most_variables t.count h) (string_full h a)) (λ h. rw (lt-leb most_variables t.count h) (string_more h a)))

  pub string_stored_lem : StringKept t used name space len (string_stored t used name len) (space_stored t used name space len)
  string_stored_lem = string_way (way t.names t.count name y.few)
