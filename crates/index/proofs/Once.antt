-- The pairs of a text tell the lines that name a line: a line's pairs have each line that it names once.
use Rattle.std.specs.Prelude.{None, Option, Some}
use Rattle.words.specs.declared.places.LineNumber.{LineNumber}
use mathlib.Core.Path.{◌≡◌, refl, sym, ap, ap₂, ◌∙◌}
use mathlib.Core.Bool.{Bool, true, false, ◌||◌, false≢true}
use mathlib.Core.List.{List, [], ◌∷◌, ◌++◌}
use Prim.Native.Nat.{ℕ}
use borrow.Author.Tests.{eqb-true, eq-eqb}
use lib.Dec.{eqb}
use lib.ListN.{length}
use Rattle.whole.specs.Digits.{leading_value}
use Rattle.words.proofs.Choices.{by_test}
use Rattle.loader.specs.Lines.{Line, after_number}
use Rattle.grammar.specs.Trees.{Statement}
use Rattle.statements.specs.Parts.{named_line, statements_of}
use Rattle.reader.specs.Lines.{Judgement, unreadable, too_deep, holds, judgement}
use Rattle.index.specs.Callers.{is_named, any_names, line_names, in_front_if, callers_among}
use Rattle.index.specs.Pairs.{Pair, is_in, with_named, named_by, named_in, pairs_with, pairs_among}
use Rattle.index.specs.Index.{pair_words}
use Rattle.index.specs.Asking.{naming_among}
use Rattle.index.proofs.Strides.{in_front}

-- ---- two tests

or_assoc : (a b c : Bool) → (a || b) || c ≡ a || (b || c)
or_assoc true b c = refl
or_assoc false b c = refl

or_false : (a : Bool) → a || false ≡ a
or_false true = refl
or_false false = refl

or_true : (a : Bool) → a || true ≡ true
or_true true = refl
or_true false = refl

or_first : (a b : Bool) → a || b ≡ false → a ≡ false
or_first true b e = e
or_first false b e = refl

or_second : (a b : Bool) → a || b ≡ false → b ≡ false
or_second true b e = absurd (false≢true (sym e))
or_second false b e = e

-- ---- one of some numbers

in_after : (n : ℕ) (ns : List ℕ) (m : ℕ) → is_in n (ns ++ (m ∷ [])) ≡ is_in n ns || eqb m n
unfolding is_in
in_after n [] m = or_false (eqb m n)
in_after n (k ∷ ns) m = ap (λ b. eqb k n || b) (in_after n ns m) ∙ sym (or_assoc (eqb k n) (is_in n ns) (eqb m n))

-- one that is in is in still
in_same : (n m : ℕ) (ns : List ℕ) → is_in m ns ≡ true → is_in n ns ≡ is_in n ns || eqb m n
in_same n m ns h =
    by_test (eqb m n)
    (λ e. let k : is_in n ns ≡ true = rw (eqb-true m n e) at h in k ∙ sym (ap (λ b. b || eqb m n) k))
    (λ e. rw e (sym (or_false (is_in n ns))))

in_with : (n : ℕ) (seen : List ℕ) (x : Option LineNumber) → is_in n (with_named seen x) ≡ is_in n seen || is_named n x
in_with n seen None = sym (or_false (is_in n seen))
in_with n seen (Some l) =
    by_test (is_in l.0 seen) (λ e. rw e (in_same n l.0 seen e)) (λ e. rw e (in_after n seen l.0))

in_named : (n : ℕ) (xs : List Statement) (seen : List ℕ) → is_in n (named_by seen xs) ≡ is_in n seen || any_names n xs
unfolding named_by any_names
in_named n [] seen = sym (or_false (is_in n seen))
in_named n (x ∷ xs) seen =
    in_named n xs (with_named seen (named_line x))
    ∙ ap (λ b. b || any_names n xs) (in_with n seen (named_line x))
    ∙ or_assoc (is_in n seen) (is_named n (named_line x)) (any_names n xs)

-- what a line names is what its pairs name
in_line : (n : ℕ) (g : Judgement) → is_in n (named_in g) ≡ line_names n g
unfolding is_in
in_line n unreadable = refl
in_line n too_deep = refl
in_line n (holds p) = in_named n (statements_of p) []

-- ---- each once

abbrev Distinct : List ℕ → Type 0
Distinct [] = Unit {0}
Distinct (n ∷ ns) = (is_in n ns ≡ false) × Distinct ns

distinct_after : (ns : List ℕ) (m : ℕ) → Distinct ns → is_in m ns ≡ false → Distinct (ns ++ (m ∷ []))
unfolding is_in
distinct_after [] m d h = (refl, tt)
distinct_after (k ∷ ns) m d h =
    let e : eqb m k ≡ false = by_test (eqb m k) (λ t. absurd (false≢true (sym (or_first (eqb k m) (is_in m ns) h) ∙ eq-eqb k m (sym (eqb-true m k t))))) (λ t. t) in
    (in_after k ns m ∙ ap₂ (λ a b. a || b) d.0 e, distinct_after ns m d.1 (or_second (eqb k m) (is_in m ns) h))

distinct_with : (seen : List ℕ) (x : Option LineNumber) → Distinct seen → Distinct (with_named seen x)
distinct_with seen None d = d
distinct_with seen (Some l) d = by_test (is_in l.0 seen) (λ e. rw e d) (λ e. rw e (distinct_after seen l.0 d e))

distinct_named : (xs : List Statement) (seen : List ℕ) → Distinct seen → Distinct (named_by seen xs)
unfolding named_by
distinct_named [] seen d = d
distinct_named (x ∷ xs) seen d = distinct_named xs (with_named seen (named_line x)) (distinct_with seen (named_line x) d)

distinct_line : (g : Judgement) → Distinct (named_in g)
distinct_line unreadable = tt
distinct_line too_deep = tt
distinct_line (holds p) = distinct_named (statements_of p) [] tt

-- ---- the lines that pairs name a line with

unfoldable naming_of : ℕ → List Pair → List ℕ
naming_of n [] = []
naming_of n (p ∷ ps) = in_front_if (eqb p.named n) p.naming (naming_of n ps)

-- as words they tell the same
naming_words : (n : ℕ) (ps : List Pair) (rest : List ℕ) → naming_among n (length ps) (pair_words ps ++ rest) ≡ naming_of n ps
unfolding naming_among pair_words naming_of
naming_words n [] rest = refl
naming_words n (p ∷ ps) rest = ap (in_front_if (eqb p.named n) p.naming) (naming_words n ps rest)

in_front_append : (b : Bool) (x : ℕ) (ns ms : List ℕ) → in_front_if b x (ns ++ ms) ≡ in_front_if b x ns ++ ms
in_front_append true x ns ms = refl
in_front_append false x ns ms = refl

naming_append : (n : ℕ) (ps qs : List Pair) → naming_of n (ps ++ qs) ≡ naming_of n ps ++ naming_of n qs
unfolding naming_of
naming_append n [] qs = refl
naming_append n (p ∷ ps) qs =
    ap (in_front_if (eqb p.named n) p.naming) (naming_append n ps qs) ∙ in_front_append (eqb p.named n) p.naming (naming_of n ps) (naming_of n qs)

-- a line's pairs tell it once, if it names the line at all
naming_line : (n own : ℕ) (ns : List ℕ) → Distinct ns → naming_of n (pairs_with own ns) ≡ in_front_if (is_in n ns) own []
unfolding pairs_with naming_of is_in
naming_line n own [] d = refl
naming_line n own (m ∷ ns) d =
    by_test (eqb m n)
    (λ e. let k : is_in n ns ≡ false = rw (eqb-true m n e) at d.0 in
    rw e (ap (λ l. own ∷ l) (naming_line n own ns d.1 ∙ ap (λ b. in_front_if b own []) k)))
    (λ e. rw e (naming_line n own ns d.1))

naming_lines : (n : ℕ) (ls : List Line) → naming_of n (pairs_among ls) ≡ callers_among n ls
unfolding pairs_among callers_among naming_of
naming_lines n [] = refl
naming_lines n (l ∷ ls) =
    let g = judgement (after_number l) in
    let own = leading_value l.bytes in
    naming_append n (pairs_with own (named_in g)) (pairs_among ls)
    ∙ ap₂ (λ a b. a ++ b) (naming_line n own (named_in g) (distinct_line g) ∙ ap (λ b. in_front_if b own []) (in_line n g)) (naming_lines n ls)
    ∙ sym (in_front (line_names n g) own (callers_among n ls))

pub callers_told : (n : ℕ) (ls : List Line) (rest : List ℕ) → naming_among n (length (pairs_among ls)) (pair_words (pairs_among ls) ++ rest) ≡ callers_among n ls
callers_told n ls rest = naming_words n (pairs_among ls) rest ∙ naming_lines n ls
