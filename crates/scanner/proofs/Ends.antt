-- Where tokens end: never past the line's end, and past their beginning where they read.
use Rattle.std.specs.Prelude.{None, Option, Some}
use mathlib.Core.Path.{◌≡◌, refl, ◌∙◌}
use mathlib.Core.Logic.{⊎_elim}
use mathlib.Core.Bool.{Bool, true, false, cond, ◌&&◌, and-false, false≢true}
use mathlib.Core.List.{List, [], ◌∷◌, map}
use Prim.Native.Nat.{ℕ, ◌+◌, ◌≤◌, ◌<◌}
use native.Mathlib.Nat.{le-add_right}
use native.Mathlib.Omega.{arith}
use borrow.Author.Tests.{ltb-true, eqb-true}
use lib.Dec.{leb, ltb}
use lib.ListN.{length, get_or, drop, length-drop, drop_of_length-le}
use Rattle.whole.specs.Bytes.{is, bytes, leading}
use Rattle.whole.specs.Digits.{is_digit, leading_value, blanks_of}
use Rattle.whole.proofs.Numbers.{less}
use Rattle.whole.proofs.Reading.{drop_next, leading_inside}
use Rattle.whole.proofs.Never.{never}
use Rattle.words.specs.Spellings.{same_bytes, meaning}
use Rattle.words.specs.Classes.{capital_of, is_letter, is_hex, signs, sign_of, pairs, pair_of, of_sign, class_of}
use Rattle.words.specs.Vocabulary.{reserved, word_of}
use Rattle.words.specs.declared.places.Place.{Place}
use Rattle.words.specs.declared.classes.ByteClass.{ByteClass}
use Rattle.words.specs.declared.classes.ByteClass.TheVariants.{Letter, Digit, Blank, Sign, Quote, Other}
use Rattle.words.specs.declared.vocabulary.WordFound.{WordFound}
use Rattle.words.specs.declared.vocabulary.WordFound.TheVariants.{Plain, Dollared, Remark, Items, Free}
use Rattle.words.specs.declared.names.Name.{Name}
use Rattle.words.specs.declared.symbols.Quotation.{Quotation}
use Rattle.words.specs.declared.symbols.Scanned.{Scanned}
use Rattle.words.specs.declared.symbols.Token.{Token}
use Rattle.words.specs.declared.symbols.Token.TheVariants.{EndOfLine, Keyword, Not, Infix, Call, Named, Number, Hexadecimal, LineOnly, Quoted, Symbol, Unreadable}
use Rattle.words.proofs.Choices.{by_test, both}
use Rattle.words.proofs.Tables.{every, meaning_passes}
use Rattle.words.proofs.Runs.{in_line, run_some}
use Rattle.words.specs.Names.{name_width}
use Rattle.words.specs.Places.{largest_line_number, furthest}
use Rattle.scanner.specs.Runs.{passes}
use Rattle.scanner.specs.Tokens.{mark_of, mark_length, marked, word_token, number_token, hex_token, text_token, paired, sign_token, other_token, begun, token_at, reads}
use Rattle.scanner.specs.declared.runs.Run.TheVariants.{Word, Unquoted}
use Rattle.scanner.specs.declared.tokens.Mark.{Mark}
use Rattle.scanner.specs.declared.tokens.Mark.TheVariants.{Dollar, Percent, Bare}
use Rattle.scanner.proofs.Hexadecimals.{h_in_line}
use Rattle.scanner.proofs.Beginnings.{ends_here, begins_here}

-- ---- what is shown

-- a token that was asked for at a place of a line
pub record Ends (line : List ℕ) (at : ℕ) (s : Scanned) : Type 0 where
  -- a cursor never passes the line's end,
  pub within : s.next.0 ≤ length line
  -- and goes back from no place within the line
  pub onward : at ≤ length line → at ≤ s.next.0
  -- a token has at least one byte
  pub past : reads s.token ≡ true → at < s.next.0
  -- nothing follows the line's end
  pub last : s.token ≡ EndOfLine → s.next.0 ≡ length line
  -- names and texts lie within the line, and a text's closing quote too
  pub name : (n : Name) → s.token ≡ Named n → n.at + n.len ≤ length line
  pub text : (q : Quotation) → s.token ≡ Quoted q → q.at + q.len < length line

-- ---- the same, by the kind of token, of one that begins at place i of a line of so many bytes

abbrev Kept : ℕ → ℕ → Token → ℕ → Type 0
Kept end i EndOfLine next = next ≡ end
Kept end i (Keyword w) next = i < next
Kept end i Not next = i < next
Kept end i (Infix op) next = i < next
Kept end i (Call f) next = i < next
Kept end i (Named n) next = (i < next) × (n.at + n.len ≤ end)
Kept end i (Number v) next = i < next
Kept end i (Hexadecimal v) next = i < next
Kept end i (LineOnly n) next = i < next
Kept end i (Quoted q) next = (i < next) × (q.at + q.len < end)
Kept end i (Symbol s) next = i < next
Kept end i Unreadable next = i ≤ next

abbrev Stays : ℕ → ℕ → Scanned → Type 0
Stays end i s = (i ≤ s.next.0) × (s.next.0 ≤ end) × Kept end i s.token s.next.0

kept_past : (end i next : ℕ) (t : Token) → Kept end i t next → reads t ≡ true → i < next
kept_past end i next EndOfLine k r = absurd (false≢true r)
kept_past end i next (Keyword w) k r = k
kept_past end i next Not k r = k
kept_past end i next (Infix op) k r = k
kept_past end i next (Call f) k r = k
kept_past end i next (Named n) k r = k.0
kept_past end i next (Number v) k r = k
kept_past end i next (Hexadecimal v) k r = k
kept_past end i next (LineOnly n) k r = k
kept_past end i next (Quoted q) k r = k.0
kept_past end i next (Symbol s) k r = k
kept_past end i next Unreadable k r = absurd (false≢true r)

-- ---- what the tables hold: words and signs, which have no place of their own

abbrev bare : Token → Bool
bare EndOfLine = false
bare (Keyword w) = true
bare Not = true
bare (Infix op) = true
bare (Call f) = true
bare (Named v) = false
bare (Number n) = false
bare (Hexadecimal n) = false
bare (LineOnly l) = false
bare (Quoted q) = false
bare (Symbol s) = true
bare Unreadable = false

kept_bare : (end i next : ℕ) (t : Token) → bare t ≡ true → i < next → Kept end i t next
kept_bare end i next EndOfLine b h = absurd (false≢true b)
kept_bare end i next (Keyword w) b h = h
kept_bare end i next Not b h = h
kept_bare end i next (Infix op) b h = h
kept_bare end i next (Call f) b h = h
kept_bare end i next (Named v) b h = absurd (false≢true b)
kept_bare end i next (Number n) b h = absurd (false≢true b)
kept_bare end i next (Hexadecimal n) b h = absurd (false≢true b)
kept_bare end i next (LineOnly l) b h = absurd (false≢true b)
kept_bare end i next (Quoted q) b h = absurd (false≢true b)
kept_bare end i next (Symbol s) b h = h
kept_bare end i next Unreadable b h = absurd (false≢true b)

abbrev bare_word : WordFound → Bool
bare_word (Plain t) = bare t
bare_word (Dollared t) = bare t
bare_word Remark = true
bare_word Items = true
bare_word Free = true

abbrev bare_sign : Option Token → Bool
bare_sign (Some t) = bare t
bare_sign None = true

word_bare : (w : List ℕ) → bare_word (word_of w) ≡ true
unfolding reserved every
word_bare w = meaning_passes bare_word reserved Free (map capital_of w) refl refl

sign_bare : (b : ℕ) → bare_sign (sign_of b) ≡ true
unfolding signs every
sign_bare b = meaning_passes bare_sign signs None (b ∷ []) refl refl

pair_bare : (a b : ℕ) → bare_sign (pair_of a b) ≡ true
unfolding pairs every
pair_bare a b = meaning_passes bare_sign pairs None (a ∷ b ∷ []) refl refl

-- ---- words

mark_short : (m : Mark) → mark_length m ≤ 1
mark_short Dollar = omega arith
mark_short Percent = omega arith
mark_short Bare = omega arith

-- a mark is a byte of the line
mark_inside : (s : List ℕ) (n : ℕ) → n ≤ length s → n + mark_length (mark_of (drop n s)) ≤ length s
unfolding mark_of
mark_inside s n h =
    ⊎_elim (λ l. omega (arith, mark_short (mark_of (drop n s)))) (λ l. rw (drop_of_length-le s l) (omega arith)) (less n (length s))

marked_stays : (f : WordFound) (m : Mark) (i n end : ℕ) → bare_word f ≡ true → 1 ≤ n → i + n + mark_length m ≤ end
    → Stays end i (marked f m i n end)
marked_stays (Plain t) Bare i n end b h k = (omega arith, omega arith, kept_bare end i (i + n) t b (omega arith))
marked_stays (Plain t) Dollar i n end b h k = omega arith
marked_stays (Plain t) Percent i n end b h k = omega arith
marked_stays (Dollared t) Dollar i n end b h k = (omega arith, omega arith, kept_bare end i (i + n + 1) t b (omega arith))
marked_stays (Dollared t) Percent i n end b h k = omega arith
marked_stays (Dollared t) Bare i n end b h k = omega arith
marked_stays Remark m i n end b h k = omega arith
marked_stays Items m i n end b h k = omega arith
marked_stays Free m i n end b h k = by_test (leb n name_width && leb i furthest) (λ e. rw e (omega arith)) (λ e. rw e (omega arith))

-- ---- signs and digits

-- past the end stands no second sign
pair_none : (a : ℕ) → pair_of a 0 ≡ None
unfolding bytes same_bytes meaning pairs
pair_none a = simp and-false

paired_stays : (p one : Option Token) (i end : ℕ) → bare_sign p ≡ true → bare_sign one ≡ true → i + 1 ≤ end
    → ((p ≡ None → ⊥) → i + 2 ≤ end) → Stays end i (paired p one i)
paired_stays (Some t) one i end b c h k =
    let l = k (λ z. never (cc)) in
    (omega arith, omega arith, kept_bare end i (i + 2) t b (omega arith))
paired_stays None (Some t) i end b c h k = (omega arith, omega arith, kept_bare end i (i + 1) t c (omega arith))
paired_stays None None i end b c h k = omega arith

-- what is no digit has another class
no_digit : (letter blank quote : Bool) (f : Option Token)
    → cond letter Letter (cond blank Blank (cond quote Quote (of_sign f))) ≡ Digit → ◌≡◌ {A = ℕ} 0 1
no_digit true blank quote f e = cc
no_digit false true quote f e = cc
no_digit false false true f e = cc
no_digit false false false (Some s) e = cc
no_digit false false false None e = cc

digit_class : (b : ℕ) → class_of b ≡ Digit → is_digit b ≡ true
unfolding class_of
digit_class b e =
    by_test (is_digit b) (λ d. d) λ d.
    let z = no_digit (is_letter b) (is " " b) (is "\"" b) (sign_of b) (rw d at e) in absurd (omega arith)

-- ---- a token by what it begins with: b, and s after it

module _ (b : ℕ) (s : List ℕ) (i end : ℕ) (all : i + length (b ∷ s) ≡ end) where
  word_stays : passes Word b ≡ true → Stays end i (word_token end i (b ∷ s))
  unfolding word_token
  word_stays e =
      let w = leading (passes Word) (b ∷ s) in
      marked_stays (word_of w) (mark_of (drop (length w) (b ∷ s))) i (length w) end (word_bare w) (run_some (passes Word) b s e)
      (omega (arith, mark_inside (b ∷ s) (length w) (leading_inside (passes Word) (b ∷ s))))

  number_stays : is_digit b ≡ true → Stays end i (number_token i (b ∷ s))
  unfolding number_token
  number_stays e =
      let v = leading_value (b ∷ s) in
      let h = run_some is_digit b s e in
      let k = leading_inside is_digit (b ∷ s) in
      by_test (leb v 32767) (λ p. rw p (omega arith)) λ p.
      rw p (by_test (leb v largest_line_number) (λ q. rw q (omega arith)) (λ q. rw q (omega arith)))

  hex_stays : Stays end i (hex_token i (b ∷ s))
  unfolding hex_token
  hex_stays =
      let d = leading is_hex (drop 2 (b ∷ s)) in
      let h = leading_inside is_hex (drop 2 (b ∷ s)) in
      by_test (is "H" (capital_of (get_or (b ∷ s) 1 0)))
      (λ e.
      let k = h_in_line (b ∷ s) 1 (eqb-true _ _ e) in
      rw e (by_test (leb 1 (length d) && leb (length d) 4) (λ f. rw f (omega (arith, length-drop 2 (b ∷ s)))) (λ f. rw f (omega arith))))
      (λ e. rw e (omega arith))

  text_stays : Stays end i (text_token i (b ∷ s))
  unfolding text_token
  text_stays =
      let n = length (leading (passes Unquoted) (drop 1 (b ∷ s))) in
      by_test (ltb (1 + n) (length (b ∷ s)) && leb (i + 1 + n) furthest)
      (λ e. let t = ltb-true (1 + n) (length (b ∷ s)) (both (ltb (1 + n) (length (b ∷ s))) (leb (i + 1 + n) furthest) e).0 in rw e (omega arith))
      (λ e. rw e (omega arith))

  sign_stays : Stays end i (sign_token i (b ∷ s))
  unfolding sign_token
  sign_stays =
      paired_stays (pair_of b (get_or (b ∷ s) 1 0)) (sign_of b) i end (pair_bare b (get_or (b ∷ s) 1 0)) (sign_bare b) (omega arith)
      (λ n. omega (arith, in_line (pair_of b) (b ∷ s) 1 (λ z. n (z ∙ pair_none b))))

  other_stays : Stays end i (other_token end i (b ∷ s))
  other_stays =
      by_test (is "'" b) (λ e. rw e (omega arith)) λ e.
      rw e (by_test (is "&" b) (λ f. rw f hex_stays) (λ f. rw f (omega arith)))

  begun_stays : (k : ByteClass) → class_of b ≡ k → Stays end i (begun k end i (b ∷ s))
  begun_stays Letter e = word_stays (rw e)
  begun_stays Digit e = number_stays (digit_class b e)
  begun_stays Quote e = text_stays
  begun_stays Sign e = sign_stays
  begun_stays Other e = other_stays
  begun_stays Blank e = omega arith

-- ---- any token

told : (line : List ℕ) (at i : ℕ) (s : Scanned) → at ≤ i → Stays (length line) i s → Ends line at s
told line at i s h k = record {
  within = k.1;
  onward = λ l. omega arith;
  past = λ r. omega (arith, kept_past (length line) i s.next.0 s.token k.2 r);
  last = λ e. rw e at k.2;
  name = λ n e. (rw e at k.2).1;
  text = λ q e. (rw e at k.2).1;
}

begins_stays : (line : List ℕ) (i : ℕ) → i < length line → Stays (length line) i (begun (class_of (get_or line i 0)) (length line) i (drop i line))
begins_stays line i h =
    let b = get_or line i 0 in
    let s = drop (i + 1) line in
    rw (drop_next line i h) (begun_stays b s i (length line) (omega (arith, length-drop (i + 1) line)) (class_of b) refl)

pub token_ends : (line : List ℕ) (at : Place) → Ends line at.0 (token_at line at)
token_ends line at =
    let i = at.0 + blanks_of (drop at.0 line) in
    ⊎_elim
    (λ h. rw (begins_here line at i refl h) (told line at.0 i _ (le-add_right at.0 _) (begins_stays line i h)))
    (λ h. rw (ends_here line at i refl h) (record {
      within = omega arith;
      onward = λ l. l;
      past = λ r. absurd (false≢true r);
      last = λ e. refl;
      name = λ n e. never (cc);
      text = λ q e. never (cc);
    }))
    (less i (length line))

-- the same of what `token_at` gave
pub scanned_ends : (line : List ℕ) (at : Place) {r : Scanned} → r ≡ token_at line at → Ends line at.0 r
scanned_ends line at e = rw e (token_ends line at)
