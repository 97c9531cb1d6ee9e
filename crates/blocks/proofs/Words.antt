-- Words of two bytes each, and the bytes of words.
use mathlib.Core.Path.{◌≡◌, refl, sym, ap, ◌∙◌}
use mathlib.Core.List.{List, [], ◌∷◌, ◌++◌}
use Prim.Native.Nat.{ℕ, zero, suc, ◌+◌, ◌*◌, ◌/◌, ◌%◌, ◌≤◌, ◌<◌}
use native.Mathlib.Nat.{div-add-mod'}
use native.Mathlib.Numerals.{add-one}
use native.Mathlib.Omega.{arith}
use lib.ListN.{length, get_or, set, take, drop, length-set}
use lib.Seq.{take_all, take-suc-set, append_snoc, get_or-drop}
use Rattle.blocks.specs.Blocks.{words_from, word_bytes}

-- ---- words read

-- the word at a place of bytes
abbrev word_at : List ℕ → ℕ → ℕ
word_at bytes i = get_or bytes (2 * i) 0 + 256 * get_or bytes (2 * i + 1) 0

-- the word of a later place, counted from two bytes on
word_later : (bytes : List ℕ) (i : ℕ) → word_at (drop 2 bytes) i ≡ word_at bytes (suc i)
word_later bytes i =
    let low : 2 + 2 * i ≡ 2 * suc i = omega arith in
    let high : 2 + (2 * i + 1) ≡ 2 * suc i + 1 = omega arith in
    ap (λ x. x + 256 * get_or (drop 2 bytes) (2 * i + 1) 0) (get_or-drop 2 bytes (2 * i) 0 ∙ ap (λ k. get_or bytes k 0) low)
    ∙ ap (λ x. get_or bytes (2 * suc i) 0 + 256 * x) (get_or-drop 2 bytes (2 * i + 1) 0 ∙ ap (λ k. get_or bytes k 0) high)

-- one more word
words_next : (bytes : List ℕ) (i : ℕ) → words_from (suc i) bytes ≡ words_from i bytes ++ (word_at bytes i ∷ [])
unfolding words_from
words_next bytes zero = refl
words_next bytes (suc i) =
    ap (λ ws. word_at bytes 0 ∷ ws)
    (words_next (drop 2 bytes) i ∙ ap (λ w. words_from i (drop 2 bytes) ++ (w ∷ [])) (word_later bytes i))

-- a turn of the loop that reads them
pub word_read : (words bytes : List ℕ) (i w : ℕ) → i < length words → w ≡ word_at bytes i → take i words ≡ words_from i bytes
    → take (i + 1) (set words i w) ≡ words_from (i + 1) bytes
word_read words bytes i w h e done =
    rw (add-one i)
    (take-suc-set words i w h ∙ ap (λ l. l ++ (w ∷ [])) done ∙ ap (λ x. words_from i bytes ++ (x ∷ [])) e ∙ sym (words_next bytes i))

-- ---- words written

-- one more word's bytes
bytes_next : (words : List ℕ) (i : ℕ) → i < length words
    → word_bytes (take (suc i) words) ≡ word_bytes (take i words) ++ ((get_or words i 0 % 256) ∷ (get_or words i 0 / 256) ∷ [])
unfolding word_bytes
bytes_next [] i h = absurd (omega arith)
bytes_next (w ∷ ws) zero h = refl
bytes_next (w ∷ ws) (suc i) h = ap (λ l. (w % 256) ∷ (w / 256) ∷ l) (bytes_next ws i (omega arith))

-- a turn of the loop that writes them
pub word_written : (bytes words : List ℕ) (i low high : ℕ) → 2 * i + 1 < length bytes → i < length words
    → low ≡ get_or words i 0 % 256 → high ≡ get_or words i 0 / 256 → take (2 * i) bytes ≡ word_bytes (take i words)
    → take (2 * (i + 1)) (set (set bytes (2 * i) low) (2 * i + 1) high) ≡ word_bytes (take (i + 1) words)
word_written bytes words i low high b h el eh done =
    let twice : 2 * (i + 1) ≡ suc (2 * i + 1) = omega arith in
    let one : 2 * i + 1 ≡ suc (2 * i) = omega arith in
    let inside : 2 * i + 1 < length (set bytes (2 * i) low) = simp length-set b in
    ap (λ k. take k (set (set bytes (2 * i) low) (2 * i + 1) high)) twice
    ∙ take-suc-set (set bytes (2 * i) low) (2 * i + 1) high inside
    ∙ ap (λ k. take k (set bytes (2 * i) low) ++ (high ∷ [])) one
    ∙ ap (λ l. l ++ (high ∷ [])) (take-suc-set bytes (2 * i) low (omega arith))
    ∙ append_snoc (take (2 * i) bytes) low (high ∷ [])
    ∙ ap (λ l. l ++ (low ∷ high ∷ [])) done
    ∙ ap (λ x. word_bytes (take i words) ++ (x ∷ high ∷ [])) el
    ∙ ap (λ x. word_bytes (take i words) ++ ((get_or words i 0 % 256) ∷ x ∷ [])) eh
    ∙ sym (bytes_next words i h)
    ∙ ap (λ k. word_bytes (take k words)) (sym (add-one i))

-- all of them are written
pub all_written : (bytes words : List ℕ) {i n : ℕ} → i ≡ n → length bytes ≡ 2 * n → length words ≡ n
    → take (2 * i) bytes ≡ word_bytes (take i words) → bytes ≡ word_bytes words
all_written bytes words {i} {n} e l m done =
    let b : length bytes ≤ 2 * i = omega arith in
    let w : length words ≤ i = omega arith in
    sym (take_all (2 * i) bytes b) ∙ done ∙ ap word_bytes (take_all i words w)

pub word_bytes-length : (words : List ℕ) → length (word_bytes words) ≡ 2 * length words
unfolding word_bytes
word_bytes-length [] = refl
word_bytes-length (w ∷ ws) = let e = word_bytes-length ws in omega arith

-- ---- words written and read again

pub words_back : (words : List ℕ) → words_from (length words) (word_bytes words) ≡ words
unfolding words_from word_bytes
words_back [] = refl
words_back (w ∷ ws) =
    let e : w % 256 + 256 * (w / 256) ≡ w = omega (arith, div-add-mod' w 256) in
    ap (λ x. x ∷ words_from (length ws) (word_bytes ws)) e ∙ ap (λ l. w ∷ l) (words_back ws)
