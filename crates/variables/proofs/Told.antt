-- A tidy table is told by what it holds.
use mathlib.Core.Path.{◌≡◌, refl, sym, ap, ◌∙◌}
use mathlib.Core.List.{List, [], ◌∷◌, ◌++◌, map}
use Prim.Native.Nat.{ℕ, ◌-◌, ◌*◌, ◌≤◌}
use native.Mathlib.Omega.{arith}
use lib.ListN.{length, take, drop, replicate, length-drop, take-append-drop}
use lib.Seq.{length-take-le}
use Rattle.words.specs.Names.{Telling, name_width}
use Rattle.variables.specs.bridge.Memory.{strings_in, numbers_held, strings_held, TidyNumbers, TidyStrings}
use Rattle.variables.specs.Tables.{names_long, names_from, numbers_in, sum_of, numbers_table, strings_table}
use Rattle.variables.specs.declared.tables.Numbers.{Numbers}
use Rattle.variables.specs.declared.tables.Strings.{Strings}
use Rattle.variables.specs.Variables.{most_variables}
use Rattle.variables.proofs.Lookups.{names_length}
use Rattle.variables.proofs.Holding.{number_count, string_count, used_sum}

-- ---- what was put together, taken apart

number_names : (ns : List Telling) (ws : List ℕ) → length ns ≤ length ws → map (λ v. v.name) (numbers_in ns ws) ≡ ns
unfolding numbers_in
number_names [] ws h = refl
number_names (n ∷ ns) [] h = absurd (omega arith)
number_names (n ∷ ns) (w ∷ ws) h = ap (λ l. n ∷ l) (number_names ns ws (omega arith))

number_words : (ns : List Telling) (ws : List ℕ) → length ns ≤ length ws → map (λ v. v.word) (numbers_in ns ws) ≡ take (length ns) ws
unfolding numbers_in
number_words [] ws h = refl
number_words (n ∷ ns) [] h = absurd (omega arith)
number_words (n ∷ ns) (w ∷ ws) h = ap (λ l. w ∷ l) (number_words ns ws (omega arith))

string_names : (ns : List Telling) (ls space : List ℕ) → length ns ≤ length ls → map (λ v. v.name) (strings_in ns ls space) ≡ ns
unfolding strings_in
string_names [] ls space h = refl
string_names (n ∷ ns) [] space h = absurd (omega arith)
string_names (n ∷ ns) (l ∷ ls) space h = ap (λ l. n ∷ l) (string_names ns ls (drop l space) (omega arith))

string_lengths : (ns : List Telling) (ls space : List ℕ) → length ns ≤ length ls → sum_of (take (length ns) ls) ≤ length space
    → map (λ v. length v.bytes) (strings_in ns ls space) ≡ take (length ns) ls
unfolding strings_in sum_of
string_lengths [] ls space h k = refl
string_lengths (n ∷ ns) [] space h k = absurd (omega arith)
string_lengths (n ∷ ns) (l ∷ ls) space h k =
    let d = length-drop l space in
    let e = length-take-le l space (omega arith) in
    let f = string_lengths ns ls (drop l space) (omega arith) (omega arith) in
    rw (e, f)

-- a list of which all behind a place is blank
back_blank : (l : List ℕ) (n m : ℕ) → drop n l ≡ replicate m 0 → l ≡ take n l ++ replicate m 0
back_blank l n m e = sym (take-append-drop n l) ∙ ap (λ r. take n l ++ r) e

-- ---- the tables

table_numbers : (n : Numbers) (names words : List ℕ) (count : ℕ) → n.names ≡ names → n.words ≡ words → n.count ≡ count
    → n ≡ record { names = names; words = words; count = count }
table_numbers n names words count a b c = rw (← a, ← b, ← c)

table_strings : (t : Strings) (names lengths : List ℕ) (count : ℕ) → t.names ≡ names → t.lengths ≡ lengths → t.count ≡ count
    → t ≡ record { names = names; lengths = lengths; count = count }
table_strings t names lengths count a b c = rw (← a, ← b, ← c)

pub numbers_told : (n : Numbers) → TidyNumbers n → n ≡ numbers_table (numbers_held n)
numbers_told n y =
    let ns = names_from n.count n.names in
    let l = names_length n.count n.names in
    let h : length ns ≤ length n.words = omega (arith, y.few, y.worded) in
    let k = number_count ns n.words h ∙ l in
    table_numbers n _ _ _
    (rw (number_names ns n.words h, k, y.filled)
    (back_blank n.names (name_width * n.count) (names_long - name_width * n.count) y.names_blank))
    (rw (number_words ns n.words h, k, l) (back_blank n.words n.count (most_variables - n.count) y.words_blank))
    (sym k)

pub strings_told : (t : Strings) (space : List ℕ) → TidyStrings t → sum_of t.lengths ≤ length space → t ≡ strings_table (strings_held t space)
strings_told t space y u =
    let ns = names_from t.count t.names in
    let l = names_length t.count t.names in
    let h : length ns ≤ length t.lengths = omega (arith, y.few, y.lengthy) in
    let k = string_count ns t.lengths space h ∙ l in
    let s : sum_of (take (length ns) t.lengths) ≤ length space = let e = used_sum t y in rw l (omega arith) in
    table_strings t _ _ _
    (rw (string_names ns t.lengths space h, k, y.filled)
    (back_blank t.names (name_width * t.count) (names_long - name_width * t.count) y.names_blank))
    (rw (string_lengths ns t.lengths space h s, k, l) (back_blank t.lengths t.count (most_variables - t.count) y.lengths_blank))
    (sym k)
