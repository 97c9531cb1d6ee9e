-- What tidy tables hold: the entries in use, behind which all are zeros.
use mathlib.Core.Path.{◌≡◌, refl, sym, ap, ◌∙◌}
use mathlib.Core.List.{List, [], ◌∷◌, ◌++◌}
use Prim.Native.Nat.{ℕ, zero, suc, ◌+◌, ◌-◌, ◌*◌, ◌≤◌}
use native.Mathlib.Omega.{arith}
use lib.ListN.{length, take, drop, replicate}
use lib.Seq.{length-take-le, take-add, drop-drop}
use Rattle.words.proofs.Choices.{by_test}
use Rattle.words.specs.Names.{Telling, name_width, alike}
use Rattle.space.specs.Moves.{cleared}
use Rattle.variables.specs.Variables.{word_of, bytes_of, string_bytes, joined_strings, most_variables}
use Rattle.variables.specs.bridge.Memory.{strings_in, Looked, numbers_held, strings_held, empty, TidyNumbers, TidyStrings}
use Rattle.variables.specs.Tables.{name_bytes, names_from, numbers_in, sum_of, empty_tables}
use Rattle.variables.specs.declared.tables.Numbers.{Numbers}
use Rattle.variables.specs.declared.tables.Strings.{Strings}
use Rattle.variables.proofs.Lookups.{names_length, strings_kept, strings_sum}
use Rattle.variables.proofs.Ways.{names_used}

-- ---- zeros

drop_zeros : (k n : ℕ) → ◌≡◌ {A = List ℕ} (drop k (replicate n 0)) (replicate (n - k) 0)
drop_zeros zero n = let e : n - 0 ≡ n = omega arith in rw e
drop_zeros (suc k) zero = let e : 0 - suc k ≡ 0 = omega arith in rw e
drop_zeros (suc k) (suc n) = let e : suc n - suc k ≡ n - k = omega arith in rw e (drop_zeros k n)

-- after some of them, the others
pub blank_after : (l : List ℕ) (at n m : ℕ) → drop at l ≡ replicate n 0 → drop (at + m) l ≡ replicate (n - m) 0
blank_after l at n m e = sym (drop-drop m at l) ∙ ap (drop m) e ∙ drop_zeros m n

sum_zeros : (n : ℕ) → sum_of (replicate n 0) ≡ 0
unfolding sum_of
sum_zeros zero = refl
sum_zeros (suc n) = let e = sum_zeros n in omega arith

sum_split : (n : ℕ) (ls : List ℕ) → sum_of ls ≡ sum_of (take n ls) + sum_of (drop n ls)
unfolding sum_of
sum_split zero ls = omega arith
sum_split (suc n) [] = refl
sum_split (suc n) (l ∷ ls) = let e = sum_split n ls in omega arith

-- the lengths in use have the sum of all
pub sum_used : (n m : ℕ) (ls : List ℕ) → drop n ls ≡ replicate m 0 → sum_of (take n ls) ≡ sum_of ls
sum_used n m ls e = let s = sum_split n ls in let z : sum_of (drop n ls) ≡ 0 = ap sum_of e ∙ sum_zeros m in omega arith

-- ---- only as many words and lengths count as there are names

numbers_taken : (ns : List Telling) (ws : List ℕ) → numbers_in ns ws ≡ numbers_in ns (take (length ns) ws)
unfolding numbers_in
numbers_taken [] ws = refl
numbers_taken (n ∷ ns) [] = refl
numbers_taken (n ∷ ns) (w ∷ ws) = ap (λ vs. record { name = n; word = w } ∷ vs) (numbers_taken ns ws)

strings_taken : (ns : List Telling) (ls space : List ℕ) → strings_in ns ls space ≡ strings_in ns (take (length ns) ls) space
unfolding strings_in
strings_taken [] ls space = refl
strings_taken (n ∷ ns) [] space = refl
strings_taken (n ∷ ns) (l ∷ ls) space = ap (λ vs. record { name = n; bytes = take l space } ∷ vs) (strings_taken ns ls (drop l space))

pub numbers_same : (ns : List Telling) (ws ws' : List ℕ) → take (length ns) ws ≡ take (length ns) ws' → numbers_in ns ws ≡ numbers_in ns ws'
numbers_same ns ws ws' e = numbers_taken ns ws ∙ ap (numbers_in ns) e ∙ sym (numbers_taken ns ws')

pub strings_same : (ns : List Telling) (ls ls' space : List ℕ) → take (length ns) ls ≡ take (length ns) ls'
    → strings_in ns ls space ≡ strings_in ns ls' space
strings_same ns ls ls' space e = strings_taken ns ls space ∙ ap (λ l. strings_in ns l space) e ∙ sym (strings_taken ns ls' space)

-- ---- there are as many variables as names

pub number_count : (ns : List Telling) (ws : List ℕ) → length ns ≤ length ws → length (numbers_in ns ws) ≡ length ns
unfolding numbers_in
number_count [] ws h = refl
number_count (n ∷ ns) [] h = absurd (omega arith)
number_count (n ∷ ns) (w ∷ ws) h = ap suc (number_count ns ws (omega arith))

pub string_count : (ns : List Telling) (ls space : List ℕ) → length ns ≤ length ls → length (strings_in ns ls space) ≡ length ns
unfolding strings_in
string_count [] ls space h = refl
string_count (n ∷ ns) [] space h = absurd (omega arith)
string_count (n ∷ ns) (l ∷ ls) space h = ap suc (string_count ns ls (drop l space) (omega arith))

-- ---- unused entries read as 0 and empty whatever their name

blank_word : (ns : List Telling) (m : ℕ) (name : Telling) → word_of (numbers_in ns (replicate m 0)) name ≡ 0
unfolding word_of numbers_in
blank_word [] m name = refl
blank_word (n ∷ ns) zero name = refl
blank_word (n ∷ ns) (suc m) name = by_test (alike n name) (λ t. rw t) (λ t. rw t (blank_word ns m name))

blank_bytes : (ns : List Telling) (m : ℕ) (space : List ℕ) (name : Telling) → bytes_of (strings_in ns (replicate m 0) space) name ≡ []
unfolding bytes_of strings_in
blank_bytes [] m space name = refl
blank_bytes (n ∷ ns) zero space name = refl
blank_bytes (n ∷ ns) (suc m) space name = by_test (alike n name) (λ t. rw t) (λ t. rw t (blank_bytes ns m space name))

word_held : (a b : List Telling) (ws : List ℕ) (m : ℕ) (name : Telling) → drop (length a) ws ≡ replicate m 0
    → word_of (numbers_in a ws) name ≡ word_of (numbers_in (a ++ b) ws) name
unfolding word_of numbers_in
word_held [] b ws m name e = sym (ap (λ l. word_of (numbers_in b l) name) e ∙ blank_word b m name)
word_held (n ∷ a) b [] m name e = refl
word_held (n ∷ a) b (w ∷ ws) m name e = by_test (alike n name) (λ t. rw t) (λ t. rw t (word_held a b ws m name e))

bytes_held : (a b : List Telling) (ls space : List ℕ) (m : ℕ) (name : Telling) → drop (length a) ls ≡ replicate m 0
    → bytes_of (strings_in a ls space) name ≡ bytes_of (strings_in (a ++ b) ls space) name
unfolding bytes_of strings_in
bytes_held [] b ls space m name e = sym (ap (λ l. bytes_of (strings_in b l space) name) e ∙ blank_bytes b m space name)
bytes_held (n ∷ a) b [] space m name e = refl
bytes_held (n ∷ a) b (l ∷ ls) space m name e =
    by_test (alike n name) (λ t. rw t) (λ t. rw t (bytes_held a b ls (drop l space) m name e))

-- so the variables that the tables hold are those that are looked up
pub held_looked : (n : Numbers) (t : Strings) (space : List ℕ) → TidyNumbers n → TidyStrings t
    → Looked (record { numbers = numbers_held n; strings = strings_held t space }) (record { numbers = n; strings = t }) space
held_looked n t space a b =
    record {
      word = λ name. let l = names_length n.count n.names in
          word_held (names_from n.count n.names) (names_from (most_variables - n.count) (drop (name_width * n.count) n.names)) n.words (most_variables - n.count) name
          (rw l a.words_blank)
          ∙ ap (λ ns. word_of (numbers_in ns n.words) name) (sym (names_used n.count n.names a.few));
      bytes = λ name. let l = names_length t.count t.names in
          bytes_held (names_from t.count t.names) (names_from (most_variables - t.count) (drop (name_width * t.count) t.names)) t.lengths space (most_variables - t.count) name
          (rw l b.lengths_blank)
          ∙ ap (λ ns. bytes_of (strings_in ns t.lengths space) name) (sym (names_used t.count t.names b.few));
    }

-- ---- the strings' bytes

joined_in : (ns : List Telling) (ls space : List ℕ) → length ns ≡ length ls → joined_strings (strings_in ns ls space) ≡ take (sum_of ls) space
unfolding joined_strings strings_in sum_of
joined_in [] [] space e = refl
joined_in [] (l ∷ ls) space e = absurd (omega arith)
joined_in (n ∷ ns) [] space e = absurd (omega arith)
joined_in (n ∷ ns) (l ∷ ls) space e = ap (λ b. take l space ++ b) (joined_in ns ls (drop l space) (omega arith)) ∙ sym (take-add l (sum_of ls) space)

-- the names in use are as many as the lengths in use
used_names : (t : Strings) → TidyStrings t → length (names_from t.count t.names) ≡ length (take t.count t.lengths)
used_names t y =
    names_length t.count t.names ∙ sym (length-take-le t.count t.lengths (omega (arith, y.few, y.lengthy)))

-- the strings with the lengths in use alone
used_strings : (t : Strings) (space : List ℕ) → strings_held t space ≡ strings_in (names_from t.count t.names) (take t.count t.lengths) space
used_strings t space =
    strings_taken (names_from t.count t.names) t.lengths space
    ∙ ap (λ k. strings_in (names_from t.count t.names) (take k t.lengths) space) (names_length t.count t.names)

pub used_sum : (t : Strings) → TidyStrings t → sum_of (take t.count t.lengths) ≡ sum_of t.lengths
used_sum t y = sum_used t.count (most_variables - t.count) t.lengths y.lengths_blank

-- the strings have their lengths' sum of bytes
pub strings_live : (t : Strings) (space : List ℕ) → TidyStrings t → sum_of t.lengths ≤ length space
    → string_bytes (strings_held t space) ≡ sum_of t.lengths
strings_live t space y h =
    let u = used_sum t y in
    ap string_bytes (used_strings t space)
    ∙ strings_sum (names_from t.count t.names) (take t.count t.lengths) space (used_names t y) (omega arith)
    ∙ u

-- and are the front of the space
pub strings_joined : (t : Strings) (space : List ℕ) → TidyStrings t → joined_strings (strings_held t space) ≡ take (sum_of t.lengths) space
strings_joined t space y =
    ap joined_strings (used_strings t space)
    ∙ joined_in (names_from t.count t.names) (take t.count t.lengths) space (used_names t y)
    ∙ ap (λ k. take k space) (used_sum t y)

-- what is written above them changes none
pub strings_held_kept : (t : Strings) (s s' : List ℕ) → take (sum_of t.lengths) s ≡ take (sum_of t.lengths) s' → strings_held t s ≡ strings_held t s'
strings_held_kept t s s' e = strings_kept (names_from t.count t.names) t.lengths s s' e

-- and they stay when the rest of the space is cleaned
pub cleaned : (t : Strings) (space : List ℕ) (used : ℕ) → TidyStrings t → used ≡ sum_of t.lengths
    → cleared space used ≡ joined_strings (strings_held t space) ++ replicate (length space - used) 0
unfolding cleared
cleaned t space used y e = ap (λ k. take k space ++ replicate (length space - used) 0) e ∙ ap (λ b. b ++ replicate (length space - used) 0) (sym (strings_joined t space y))

-- ---- empty tables

pub empty_numbers : TidyNumbers empty_tables.numbers
unfolding names_from name_bytes
empty_numbers = record { few = omega arith; named = refl; worded = refl; filled = refl; names_blank = refl; words_blank = refl; apart = empty }

pub empty_strings : TidyStrings empty_tables.strings
unfolding names_from name_bytes
empty_strings = record { few = omega arith; named = refl; lengthy = refl; filled = refl; names_blank = refl; lengths_blank = refl }

pub empty_numbers_held : numbers_held empty_tables.numbers ≡ []
unfolding names_from numbers_in
empty_numbers_held = refl

pub empty_strings_held : (space : List ℕ) → strings_held empty_tables.strings space ≡ []
unfolding names_from strings_in
empty_strings_held space = refl

pub empty_sum : sum_of empty_tables.strings.lengths ≡ 0
empty_sum = sum_zeros most_variables
