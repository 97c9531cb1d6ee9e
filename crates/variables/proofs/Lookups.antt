-- Looking a name up in the tables: the first entry that has it, what number or string it holds, and where the string stands.
use Rattle.std.specs.Prelude.{None, Some}
use mathlib.Core.Path.{◌≡◌, refl, sym, ap, ◌∙◌}
use mathlib.Core.Bool.{true, false}
use mathlib.Core.List.{List, [], ◌∷◌}
use Prim.Native.Nat.{ℕ, zero, suc, ◌+◌, ◌-◌, ◌*◌, ◌≤◌, ◌<◌}
use native.Mathlib.Omega.{arith}
use native.Mathlib.Numerals.{add-one}
use lib.ListN.{length, take, drop, get_or, length-drop}
use lib.Seq.{length-take-le, take-nil, take-take, drop-drop}
use Rattle.std.specs.List.{sum}
use Rattle.std.proofs.lemmas.List.Sums.{sum_by-cons}
use Rattle.words.proofs.Choices.{by_test}
use Rattle.words.specs.Names.{Telling, name_width, alike}
use Rattle.variables.specs.Variables.{word_of, bytes_of, string_bytes, most_variables}
use Rattle.variables.specs.bridge.Memory.{strings_in, name_at}
use Rattle.variables.specs.Tables.{names_from, names_in, numbers_in, slot_from, slot_in, sum_of}
use Rattle.whole.proofs.Never.{never}

-- ---- the names of a table

pub names_length : (n : ℕ) (names : List ℕ) → length (names_from n names) ≡ n
unfolding names_from
names_length zero names = refl
names_length (suc n) names = ap suc (names_length n (drop name_width names))

-- there are 64
pub names_count : (names : List ℕ) → length (names_in names) ≡ most_variables
unfolding names_in
names_count names = names_length most_variables names

-- from the i-th on: it and those after it
pub name_next : (names : List ℕ) (i : ℕ) → i < most_variables
    → names_from (most_variables - i) (drop (name_width * i) names) ≡ name_at names i ∷ names_from (most_variables - (i + 1)) (drop (name_width * (i + 1)) names)
unfolding names_from
name_next names i h =
    let e : most_variables - i ≡ suc (most_variables - (i + 1)) = omega arith in
    let g : name_width * i + name_width ≡ name_width * (i + 1) = omega arith in
    rw (e, drop-drop name_width (name_width * i) names, g)

-- the search from the i-th on: it ends there, or goes on
module _ (names : List ℕ) (name : Telling) (i : ℕ) (h : i < most_variables) where
  pub slot_here : alike (name_at names i) name ≡ true → slot_from i (names_from (most_variables - i) (drop (name_width * i) names)) name ≡ Some i
  unfolding slot_from
  slot_here e = ap (λ ns. slot_from i ns name) (name_next names i h) ∙ rw e

  pub slot_next : alike (name_at names i) name ≡ false
      → slot_from i (names_from (most_variables - i) (drop (name_width * i) names)) name ≡ slot_from (i + 1) (names_from (most_variables - (i + 1)) (drop (name_width * (i + 1)) names)) name
  unfolding slot_from
  slot_next e = ap (λ ns. slot_from i ns name) (name_next names i h) ∙ rw (e, add-one i)

-- ---- the first entry with a name

pub data First (name : Telling) : List Telling → ℕ → Type 0 where
  here : {n : Telling} {ns : List Telling} → alike n name ≡ true → First name (n ∷ ns) 0
  later : {n : Telling} {ns : List Telling} {i : ℕ} → alike n name ≡ false → First name ns i → First name (n ∷ ns) (suc i)

record Found (name : Telling) (ns : List Telling) (k i : ℕ) : Type 0 where
  place : ℕ
  first : First name ns place
  counted : i ≡ k + place

found_from : (k : ℕ) (ns : List Telling) (name : Telling) (i : ℕ) → slot_from k ns name ≡ Some i → Found name ns k i
unfolding slot_from
found_from k [] name i e = never (cc)
found_from k (n ∷ ns) name i e =
    by_test (alike n name)
    (λ t. let s : Some k ≡ Some i = rw t at e in let p : k ≡ i = cc in record { place = 0; first = here t; counted = omega arith })
    (λ t. let f = found_from (suc k) ns name i (rw t at e) in
    record { place = suc f.place; first = later t f.first; counted = omega (arith, f.counted) })

module _ (names : List ℕ) (name : Telling) (i : ℕ) (e : slot_in names name ≡ Some i) where
  pub slot_first : First name (names_in names) i
  slot_first =
      let f = found_from 0 (names_in names) name i e in let p : i ≡ f.place = omega (arith, f.counted) in rw p f.first

first_below : {name : Telling} {ns : List Telling} {i : ℕ} → First name ns i → i < length ns
first_below (here e) = omega arith
first_below (later e f) = let h = first_below f in omega arith

-- an entry is one of 64
pub slot_below : (names : List ℕ) (name : Telling) (i : ℕ) → slot_in names name ≡ Some i → i < most_variables
slot_below names name i e = let h = first_below (slot_first names name i e) in let n = names_count names in omega arith

-- ---- numbers

first_word : {name : Telling} {ns : List Telling} {i : ℕ} → First name ns i → (ws : List ℕ) → word_of (numbers_in ns ws) name ≡ get_or ws i 0
unfolding word_of numbers_in
first_word (here e) [] = refl
first_word (here e) (w ∷ ws) = rw e
first_word (later e f) [] = refl
first_word (later e f) (w ∷ ws) = rw e (first_word f ws)

-- a name's number is its entry's
pub slot_word : (names words : List ℕ) (name : Telling) (i : ℕ) → slot_in names name ≡ Some i
    → word_of (numbers_in (names_in names) words) name ≡ get_or words i 0
slot_word names words name i e = first_word (slot_first names name i e) words

missing_word : (k : ℕ) (ns : List Telling) (ws : List ℕ) (name : Telling) → slot_from k ns name ≡ None → word_of (numbers_in ns ws) name ≡ 0
unfolding slot_from word_of numbers_in
missing_word k [] ws name e = refl
missing_word k (n ∷ ns) [] name e = refl
missing_word k (n ∷ ns) (w ∷ ws) name e =
    by_test (alike n name)
    (λ t. let s : Some k ≡ None = rw t at e in never (cc))
    (λ t. rw t (missing_word (suc k) ns ws name (rw t at e)))

-- a name with no entry reads as 0
pub no_slot_word : (names words : List ℕ) (name : Telling) → slot_in names name ≡ None
    → word_of (numbers_in (names_in names) words) name ≡ 0
no_slot_word names words name e = missing_word 0 (names_in names) words name e

-- ---- strings

-- it is the library's sum
pub sum-sum_of : (ls : List ℕ) → sum ls ≡ sum_of ls
unfolding sum_of
sum-sum_of [] = refl
sum-sum_of (l ∷ ls) = sum_by-cons (λ x. x) l ls ∙ ap (λ n. l + n) (sum-sum_of ls)

-- a string ends where all do, or before
pub sum_within : (ls : List ℕ) (i : ℕ) → sum_of (take i ls) + get_or ls i 0 ≤ sum_of ls
unfolding sum_of
sum_within [] zero = omega arith
sum_within [] (suc i) = omega arith
sum_within (l ∷ ls) zero = omega arith
sum_within (l ∷ ls) (suc i) = let h = sum_within ls i in omega arith

first_bytes : {name : Telling} {ns : List Telling} {i : ℕ} → First name ns i → (ls space : List ℕ)
    → bytes_of (strings_in ns ls space) name ≡ take (get_or ls i 0) (drop (sum_of (take i ls)) space)
unfolding bytes_of strings_in sum_of
first_bytes (here e) [] space = refl
first_bytes (here e) (l ∷ ls) space = rw e
first_bytes (later e f) [] space = refl
first_bytes (later {i = i} e f) (l ∷ ls) space =
    rw e (first_bytes f ls (drop l space) ∙ ap (take (get_or ls i 0)) (drop-drop (sum_of (take i ls)) l space))

-- a name's string is its entry's: it stands after those before it
pub slot_bytes : (names lengths space : List ℕ) (name : Telling) (i : ℕ) → slot_in names name ≡ Some i
    → bytes_of (strings_in (names_in names) lengths space) name ≡ take (get_or lengths i 0) (drop (sum_of (take i lengths)) space)
slot_bytes names lengths space name i e = first_bytes (slot_first names name i e) lengths space

missing_bytes : (k : ℕ) (ns : List Telling) (ls space : List ℕ) (name : Telling) → slot_from k ns name ≡ None
    → bytes_of (strings_in ns ls space) name ≡ []
unfolding slot_from bytes_of strings_in
missing_bytes k [] ls space name e = refl
missing_bytes k (n ∷ ns) [] space name e = refl
missing_bytes k (n ∷ ns) (l ∷ ls) space name e =
    by_test (alike n name)
    (λ t. let s : Some k ≡ None = rw t at e in never (cc))
    (λ t. rw t (missing_bytes (suc k) ns ls (drop l space) name (rw t at e)))

-- a name with no entry reads as empty
pub no_slot_bytes : (names lengths space : List ℕ) (name : Telling) → slot_in names name ≡ None
    → bytes_of (strings_in (names_in names) lengths space) name ≡ []
no_slot_bytes names lengths space name e = missing_bytes 0 (names_in names) lengths space name e

-- ---- the space

-- the m bytes after the first n
pub drop-take : (n m : ℕ) (l : List ℕ) → drop n (take (n + m) l) ≡ take m (drop n l)
drop-take zero m l = let e : 0 + m ≡ m = omega arith in rw e
drop-take (suc n) m [] = let e : suc n + m ≡ suc (n + m) = omega arith in rw e (sym (take-nil m))
drop-take (suc n) m (x ∷ l) = let e : suc n + m ≡ suc (n + m) = omega arith in rw e (drop-take n m l)

-- a part below what is kept is kept
pub part_kept : (s t : List ℕ) (at n : ℕ) → take (at + n) t ≡ take (at + n) s → take n (drop at t) ≡ take n (drop at s)
part_kept s t at n e = sym (drop-take at n t) ∙ ap (drop at) e ∙ drop-take at n s

-- what is written above all strings changes none
pub strings_kept : (ns : List Telling) (ls s t : List ℕ) → take (sum_of ls) s ≡ take (sum_of ls) t → strings_in ns ls s ≡ strings_in ns ls t
unfolding strings_in sum_of
strings_kept [] ls s t e = refl
strings_kept (n ∷ ns) [] s t e = refl
strings_kept (n ∷ ns) (l ∷ ls) s t e =
    let h : l ≤ l + sum_of ls = omega arith in
    let f : take l s ≡ take l t = sym (take-take l (l + sum_of ls) s h) ∙ ap (take l) e ∙ take-take l (l + sum_of ls) t h in
    let g = strings_kept ns ls (drop l s) (drop l t) (part_kept t s l (sum_of ls) e) in
    rw (f, g)

-- the strings have their lengths' sum of bytes
pub strings_sum : (ns : List Telling) (ls space : List ℕ) → length ns ≡ length ls → sum_of ls ≤ length space
    → string_bytes (strings_in ns ls space) ≡ sum_of ls
unfolding string_bytes strings_in sum_of
strings_sum [] [] space e h = refl
strings_sum [] (l ∷ ls) space e h = absurd (omega arith)
strings_sum (n ∷ ns) [] space e h = absurd (omega arith)
strings_sum (n ∷ ns) (l ∷ ls) space e h =
    let d = length-drop l space in
    let f = length-take-le l space (omega arith) in
    let g = strings_sum ns ls (drop l space) (omega arith) (omega arith) in
    omega arith
