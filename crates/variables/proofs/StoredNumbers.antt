-- What the table of numbers holds after one was stored is what assignment makes of the variables.
use mathlib.Core.Path.{◌≡◌, refl, sym, ap, ◌∙◌}
use mathlib.Core.Bool.{true, false, not, false≢true}
use mathlib.Core.List.{List, [], ◌∷◌, ◌++◌}
use Prim.Native.Nat.{ℕ, ◌+◌, ◌*◌, ◌≤◌, ◌<◌}
use native.Mathlib.Omega.{arith}
use borrow.Author.Tests.{le-leb, lt-leb}
use lib.ListN.{length, get_or, set, length-set}
use lib.Seq.{get_or-set_same, take-set-le}
use Rattle.words.specs.Names.{Telling, name_width, alike}
use Rattle.space.proofs.Bounds.{by_bound}
use Rattle.variables.specs.Variables.{set_number, has_number, numbers_full, most_variables}
use Rattle.variables.specs.bridge.Memory.{NumberStored, Tells, Absent, none, also, name_at, numbers_of, numbers_held, TidyNumbers, with_name, number_replaced, number_stored}
use Rattle.variables.specs.Tables.{names_long, names_from, numbers_in}
use Rattle.variables.specs.declared.tables.Numbers.{Numbers}
use Rattle.variables.proofs.Lookups.{names_length, First, here, later}
use Rattle.variables.proofs.Names.{alike_self, apart_more, first_has, name_is, name_slot}
use Rattle.variables.proofs.Ways.{Way, old, new, way, number_old, number_new}
use Rattle.variables.proofs.Holding.{numbers_same, number_count}
use Rattle.variables.proofs.Naming.{named-length, names_kept, name_put, names_more, names_filled, names_after, values_after, values_behind}

-- ---- the variables

module _ {name : Telling} where
  absent_number : {ns : List Telling} → Absent name ns → (ws : List ℕ) → has_number (numbers_in ns ws) name ≡ false
  unfolding has_number numbers_in
  absent_number none ws = refl
  absent_number (also e a) [] = refl
  absent_number (also e a) (w ∷ ws) = rw e (absent_number a ws)

  first_number : {ns : List Telling} {i : ℕ} → First name ns i → (ws : List ℕ) → length ns ≤ length ws → has_number (numbers_in ns ws) name ≡ true
  unfolding has_number numbers_in
  first_number (here e) [] h = absurd (omega arith)
  first_number (here e) (w ∷ ws) h = rw e
  first_number (later e f) [] h = absurd (omega arith)
  first_number (later e f) (w ∷ ws) h = rw e (first_number f ws (omega arith))

  -- a new one goes after the others
  absent_set : {ns : List Telling} → Absent name ns → (ws : List ℕ) (w : ℕ) → length ns ≤ length ws
      → set_number (numbers_in ns ws) name w ≡ numbers_in ns ws ++ (record { name = name; word = w } ∷ [])
  unfolding set_number numbers_in
  absent_set none ws w h = refl
  absent_set (also e a) [] w h = absurd (omega arith)
  absent_set (also {n = n} e a) (v ∷ ws) w h = rw e (ap (λ vs. record { name = n; word = v } ∷ vs) (absent_set a ws w (omega arith)))

  -- an old one is set in its place
  first_set : {ns : List Telling} {i : ℕ} → First name ns i → (ws : List ℕ) (w : ℕ) → length ns ≤ length ws
      → set_number (numbers_in ns ws) name w ≡ numbers_in ns (set ws i w)
  unfolding set_number numbers_in
  first_set (here e) [] w h = absurd (omega arith)
  first_set (here e) (v ∷ ws) w h = rw e
  first_set (later e f) [] w h = absurd (omega arith)
  first_set (later {n = n} e f) (v ∷ ws) w h = rw e (ap (λ vs. record { name = n; word = v } ∷ vs) (first_set f ws w (omega arith)))

numbers_more : (ns : List Telling) (x : Telling) (ws : List ℕ) → length ns < length ws
    → numbers_in (ns ++ (x ∷ [])) ws ≡ numbers_in ns ws ++ (record { name = x; word = get_or ws (length ns) 0 } ∷ [])
unfolding numbers_in
numbers_more [] x [] h = absurd (omega arith)
numbers_more [] x (w ∷ ws) h = refl
numbers_more (n ∷ ns) x [] h = absurd (omega arith)
numbers_more (n ∷ ns) x (w ∷ ws) h = ap (λ vs. record { name = n; word = w } ∷ vs) (numbers_more ns x ws (omega arith))

-- ---- the table

-- what is so after a number was stored
pub record NumberKept (n : Numbers) (name : Telling) (w : ℕ) (r : NumberStored) : Type 0 where
  -- the names that were there stay, and the variable's is at its entry
  pub names : (i : ℕ) → i < n.count → name_at r.numbers.names i ≡ name_at n.names i
  pub more : n.count ≤ r.numbers.count
  pub slot : r.ok ≡ true → (r.slot < r.numbers.count) × (alike (name_at r.numbers.names r.slot) name ≡ true)
  -- it is refused exactly when the table is full
  pub ok : r.ok ≡ not (numbers_full (numbers_held n) name)
  -- otherwise the variable has it
  pub held : r.ok ≡ true → numbers_held r.numbers ≡ set_number (numbers_held n) name w
  pub refused : r.ok ≡ false → r.numbers ≡ n
  pub tidy : TidyNumbers r.numbers

module _ (n : Numbers) (name : Telling) (w : ℕ) (y : TidyNumbers n) (own : Tells name) where
  abbrev number_names : List Telling
  number_names = names_from n.count n.names

  worded : length number_names ≤ length n.words
  worded = let l = names_length n.count n.names in omega (arith, y.few, y.worded)

  number_replaced_lem : (i : ℕ) → i < n.count → First name number_names i → NumberKept n name w (number_replaced n i w)
  number_replaced_lem i h f =
      let l = names_length n.count n.names in
      record {
        names = λ k g. refl;
        more = omega arith;
        slot = λ _. (h, rw (name_is n.count n.names i name h) at (first_has name f));
        ok = rw (first_number f n.words worded);
        held = λ _. sym (first_set f n.words w worded);
        refused = λ e. absurd (false≢true (sym e));
        tidy = record {
          few = y.few;
          named = y.named;
          worded = simp length-set y.worded;
          filled = y.filled;
          names_blank = y.names_blank;
          words_blank = values_behind n.words most_variables n.count w y.words_blank i h;
          apart = y.apart;
        };
      }

  number_full : most_variables ≤ n.count → Absent name number_names → NumberKept n name w (record { ok = false; slot = n.count; numbers = n })
  number_full h a =
      let l : most_variables ≤ length (numbers_held n) = rw (number_count number_names n.words worded, names_length) h in
      record {
        names = λ k g. refl;
        more = omega arith;
        slot = λ e. absurd (false≢true e);
        ok = rw (absent_number a n.words, le-leb most_variables _ l);
        held = λ e. absurd (false≢true e);
        refused = λ _. refl;
        tidy = y;
      }

  number_more : n.count < most_variables → Absent name number_names
      → NumberKept n name w
      (record {
        ok = true;
        slot = n.count;
        numbers = numbers_of (with_name n.names n.count name) (set n.words n.count w) (n.count + 1);
      })
  number_more h a =
      let l : length (numbers_held n) < most_variables = rw (number_count number_names n.words worded, names_length) h in
      let k : name_width * n.count + name_width ≤ length n.names = omega (arith, y.named) in
      let c = names_length n.count n.names in
      record {
        names = names_kept n.names n.count name k;
        more = omega arith;
        slot = λ _. (omega arith, name_put n.names n.count name k);
        ok = rw (absent_number a n.words, lt-leb most_variables _ l);
        held = λ _. rw (names_more n.names n.count name k own)
            (numbers_more number_names name (set n.words n.count w) (simp length-set (omega (arith, y.worded)))
            ∙ rw (c, get_or-set_same n.words n.count w 0 (omega (arith, y.worded)))
            (ap (λ vs. vs ++ (record { name = name; word = w } ∷ []))
            (numbers_same number_names (set n.words n.count w) n.words
            (take-set-le (length number_names) n.words n.count w (omega arith))))
            ∙ sym (absent_set a n.words w worded));
        refused = λ e. absurd (false≢true (sym e));
        tidy = record {
          few = omega arith;
          named = named-length n.names n.count name k ∙ y.named;
          worded = simp length-set y.worded;
          filled = names_filled n.names n.count name k own y.filled;
          names_blank = names_after n.names n.count name k names_long y.names_blank;
          words_blank = values_after n.words most_variables n.count w y.words_blank;
          apart = rw (names_more n.names n.count name k own) (apart_more number_names name y.apart a);
        };
      }

  number_way : Way n.names n.count name → NumberKept n name w (number_stored n name w)
  number_way (old i e h f) = rw (number_old n name w i e h) (number_replaced_lem i h f)
  number_way (new x e u a) =
      rw (number_new n name w x e u)
      (by_bound most_variables n.count (λ h. rw (le-leb most_variables n.count h) (number_full h a)) (λ h. rw (lt-leb most_variables n.count h) (number_more h a)))

  pub number_stored_lem : NumberKept n name w (number_stored n name w)
  number_stored_lem = number_way (way n.names n.count name y.few)

  -- a variable by its entry
  pub number_at : (i : ℕ) → i < n.count → number_stored n (name_at n.names i) w ≡ number_replaced n i w
  number_at i h =
      number_old n (name_at n.names i) w i (name_slot n.names n.count y.few y.apart i (name_at n.names i) h (alike_self (name_at n.names i))) h
