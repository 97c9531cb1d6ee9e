-- Words as numbers: two words of bytes have one number only where they are the same word.
use mathlib.Core.Path.{◌≡◌, refl, sym, ap, ◌∙◌}
use mathlib.Core.Bool.{Bool, true, false, ◌&&◌, false≢true}
use mathlib.Core.List.{List, [], ◌∷◌, ◌++◌, map, append_assoc}
use Prim.Native.Nat.{ℕ, suc, ◌+◌, ◌*◌, ◌^◌, ◌≤◌, ◌<◌}
use native.Mathlib.Nat.{pow-le-pow_right, pow-succ'}
use native.Mathlib.Omega.{arith}
use borrow.Author.Tests.{lt-ltb, le-ltb, ltb-true, lt-leb, eq-eqb, eqb-true, ne_eqb, eqb-false}
use lib.Dec.{eqb, leb, ltb}
use lib.ListN.{length, get_or, length-append, length-map}
use Rattle.whole.specs.Bytes.{bytes}
use Rattle.words.specs.Spellings.{Spelt, same_bytes, meaning}
use Rattle.words.specs.Classes.{capital_of}
use Rattle.words.specs.Vocabulary.{reserved, word_of}
use Rattle.words.specs.bridge.Packed.{packed, unpacked_in, unpacked}
use Rattle.words.specs.declared.vocabulary.WordFound.{WordFound}
use Rattle.words.specs.declared.vocabulary.WordFound.TheVariants.{Free}
use Rattle.words.proofs.Choices.{by_test, both}
use Rattle.words.proofs.Tables.{NoKey, passed_over}

-- ---- lists of bytes

-- each number of a list is a byte
abbrev small : List ℕ → Bool
small [] = true
small (b ∷ s) = ltb b 256 && small s

capital_below : (b : ℕ) → capital_of b ≤ b
unfolding capital_of
capital_below b = by_test (leb 97 b && leb b 122) (λ e. rw e (omega arith)) (λ e. rw e (omega arith))

capitals_small : (s : List ℕ) → ((i : ℕ) → get_or s i 0 < 256) → small (map capital_of s) ≡ true
capitals_small [] h = refl
capitals_small (b ∷ s) h =
    simp (lt-ltb (capital_of b) 256 (omega (arith, h 0, capital_below b)), capitals_small s (λ i. h (suc i)))

-- ---- a byte for each of k letters below the 1

abbrev pub Bound : ℕ → ℕ → Type 0
Bound k x = x < 2 * 256 ^ k

pub bound_room : (k x : ℕ) → k ≤ 6 → Bound k x → x < 2 ^ 49
bound_room k x h b = omega (arith, pow-le-pow_right {n = 256} (omega arith) {i = k} {j = 6} h)

pub bound_more : (k x b : ℕ) → b < 256 → Bound k x → Bound (suc k) (x * 256 + b)
bound_more k x b h l = rw (pow-succ' 256 k) (omega arith)

-- the last of what is left goes before what was passed
pub passes_on : (all passed rest : List ℕ) {left : List ℕ} (x : ℕ) → all ≡ left ++ passed → left ≡ rest ++ (x ∷ []) → all ≡ rest ++ (x ∷ passed)
passes_on all passed rest x e f = e ∙ ap (λ l. l ++ passed) f ∙ append_assoc rest (x ∷ []) passed

pub passed_few : (all passed rest : List ℕ) {left : List ℕ} (x : ℕ) → all ≡ left ++ passed → left ≡ rest ++ (x ∷ []) → length all ≤ 7 → length passed ≤ 6
passed_few all passed rest x e f h = omega (arith, simp length-append at (ap length (passes_on all passed rest x e f)))

-- ---- a word's number tells the word

packed_some : (s : List ℕ) → 1 ≤ packed s
unfolding packed
packed_some [] = omega arith
packed_some (b ∷ s) = omega (arith, packed_some s)

-- the lowest byte and the rest tell a number
lowest_tells : (a b x y : ℕ) → a < 256 → b < 256 → eqb (x * 256 + a) (y * 256 + b) ≡ eqb a b && eqb x y
lowest_tells a b x y h k =
    by_test (eqb a b)
    (λ e.
    let p = eqb-true a b e in
    rw e (by_test (eqb x y)
    (λ f. let q = eqb-true x y f in rw f (eq-eqb (x * 256 + a) (y * 256 + b) (omega arith)))
    (λ f. rw f (ne_eqb (x * 256 + a) (y * 256 + b) (λ z. eqb-false x y f (omega arith))))))
    (λ e. rw e (ne_eqb (x * 256 + a) (y * 256 + b) (λ z. eqb-false a b e (omega arith))))

packed_tells : (v w : List ℕ) → small v ≡ true → small w ≡ true → eqb (packed v) (packed w) ≡ same_bytes v w
unfolding packed same_bytes
packed_tells [] [] h k = refl
packed_tells [] (b ∷ t) h k = ne_eqb 1 (packed t * 256 + b) (λ z. omega (arith, packed_some t))
packed_tells (a ∷ s) [] h k = ne_eqb (packed s * 256 + a) 1 (λ z. omega (arith, packed_some s))
packed_tells (a ∷ s) (b ∷ t) h k =
    let m = both (ltb a 256) (small s) h in
    let n = both (ltb b 256) (small t) k in
    lowest_tells a b (packed s) (packed t) (ltb-true a 256 m.0) (ltb-true b 256 n.0)
    ∙ ap (λ x. eqb a b && x) (packed_tells s t m.1 n.1)

-- ---- the table of words

-- each spelling of a table passes a test
abbrev every : (List ℕ → Bool) → List (Spelt WordFound) → Bool
every test [] = true
every test (e ∷ es) = test e.spelling && every test es

-- to look a word up by its number is to look it up by its bytes
found : (table : List (Spelt WordFound)) (w : List ℕ) → small w ≡ true → every small table ≡ true → unpacked_in table (packed w) ≡ meaning table Free w
unfolding unpacked_in meaning
found [] w h k = refl
found (e ∷ es) w h k =
    let m = both (small e.spelling) (every small es) k in
    rw (packed_tells w e.spelling h m.0, found es w h m.1)

-- a number that none of a table's words has is looked up in what follows the table
pub none_packed : (n : ℕ) (table more : List (Spelt WordFound)) → NoKey (λ e. packed e.spelling) n table (Unit {0}) → unpacked_in (table ++ more) n ≡ unpacked_in more n
unfolding unpacked_in
none_packed n table more r =
    (passed_over (λ t. unpacked_in t n) (λ e. packed e.spelling) n (λ e es d. rw (ne_eqb n (packed e.spelling) d)) table more r).0

pub unpacked_word : (s : List ℕ) → ((i : ℕ) → get_or s i 0 < 256) → unpacked (packed (map capital_of s)) ≡ word_of s
unfolding reserved bytes
unpacked_word s h = found reserved (map capital_of s) (capitals_small s h) refl

-- the same words are equally long
same_length : (v w : List ℕ) → same_bytes v w ≡ true → length v ≡ length w
unfolding same_bytes
same_length [] [] e = refl
same_length [] (b ∷ t) e = absurd (false≢true e)
same_length (a ∷ s) [] e = absurd (false≢true e)
same_length (a ∷ s) (b ∷ t) e = ap suc (same_length s t (both (eqb a b) (same_bytes s t) e).1)

-- a word of a length that fails a test, which those of a table pass, is none of them
no_such_length : (test : ℕ → Bool) (table : List (Spelt WordFound)) (w : List ℕ) → test (length w) ≡ false
    → every (λ s. test (length s)) table ≡ true → meaning table Free w ≡ Free
unfolding meaning
no_such_length test [] w h k = refl
no_such_length test (e ∷ es) w h k =
    let m = both (test (length e.spelling)) (every (λ s. test (length s)) es) k in
    by_test (same_bytes w e.spelling)
    (λ q. absurd (false≢true (sym h ∙ ap test (same_length w e.spelling q) ∙ m.0)))
    (λ q. rw (q, no_such_length test es w h m.1))

pub long_word : (s : List ℕ) → 7 < length s → word_of s ≡ Free
unfolding reserved bytes
long_word s h = no_such_length (λ n. leb n 7) reserved (map capital_of s) (rw length-map (lt-leb (length s) 7 h)) refl

-- no reserved word has one letter
pub short_word : (s : List ℕ) → length s ≤ 1 → word_of s ≡ Free
unfolding reserved bytes
short_word s h = no_such_length (λ n. ltb 1 n) reserved (map capital_of s) (rw length-map (le-ltb 1 (length s) h)) refl
