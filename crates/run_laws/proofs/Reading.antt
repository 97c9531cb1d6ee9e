-- The numbers and texts of a formula that reads are whole numbers of 16 bits and strings of at most 255 bytes.
use Rattle.std.specs.Prelude.{None, Option, Some}
use mathlib.Core.Path.{◌≡◌, refl}
use mathlib.Core.Bool.{Bool, true, false, ◌&&◌, false≢true}
use mathlib.Core.List.{List, [], ◌∷◌, map}
use mathlib.Core.Logic.{◌⊎◌, inl, inr}
use Prim.Native.Nat.{ℕ, zero, suc, ◌+◌, ◌≤◌, ◌<◌}
use native.Mathlib.Omega.{arith}
use borrow.Author.Tests.{leb-true}
use lib.Dec.{leb, ltb}
use lib.ListN.{length, drop, get_or, length-take, length-drop}
use Rattle.whole.specs.Bytes.{is, leading}
use Rattle.whole.specs.Digits.{is_digit, leading_value, blanks_of}
use Rattle.whole.specs.Texts.{longest_string}
use Rattle.whole.proofs.Numbers.{less}
use Rattle.words.specs.Classes.{capital_of, is_hex, hex_digit, signs, pairs, sign_of, pair_of, class_of}
use Rattle.words.specs.Names.{name_width}
use Rattle.words.specs.Places.{largest_line_number, furthest}
use Rattle.words.specs.Vocabulary.{reserved, word_of}
use Rattle.words.specs.declared.classes.ByteClass.{ByteClass}
use Rattle.words.specs.declared.classes.ByteClass.TheVariants.{Letter, Digit, Blank, Sign, Quote, Other}
use Rattle.words.specs.declared.places.Place.{Place}
use Rattle.words.specs.declared.symbols.Function.{Function}
use Rattle.words.specs.declared.symbols.Scanned.{Scanned}
use Rattle.words.specs.declared.symbols.Sign.TheVariants.{Open, Close, Comma, Semicolon, Colon, Question, Equal, Minus}
use Rattle.words.specs.declared.symbols.Token.{Token}
use Rattle.words.specs.declared.symbols.Token.TheVariants.{EndOfLine, Keyword, Not, Infix, Call, Named, Number, Hexadecimal, LineOnly, Quoted, Symbol, Unreadable}
use Rattle.words.specs.declared.vocabulary.WordFound.{WordFound}
use Rattle.words.specs.declared.vocabulary.WordFound.TheVariants.{Plain, Dollared, Remark, Items, Free}
use Rattle.words.proofs.Choices.{by_test, both}
use Rattle.words.proofs.Tables.{every, meaning_passes}
use Rattle.scanner.specs.Tokens.{mark_of, marked, word_token, number_token, hex_from, hex_token, text_token, paired, sign_token, begun, token_from, other_token, token_at}
use Rattle.scanner.specs.declared.tokens.Mark.{Mark}
use Rattle.scanner.specs.declared.tokens.Mark.TheVariants.{Dollar, Percent, Bare}
use Rattle.scanner.specs.Runs.{passes}
use Rattle.scanner.specs.declared.runs.Run.TheVariants as run
use Rattle.scanner.proofs.Hexadecimals.{hex_low, hex_high, hex_letter}
use Rattle.grammar.specs.Tests.{is_symbol}
use Rattle.grammar.specs.Trees.{Formula, minus, complement, two_sided, Arguments, none, also}
use Rattle.grammar.specs.Functions.{takes}
use Rattle.grammar.specs.Formulas.{not_level, tightest, right_level, minus_stands, not_stands, tight_operator, Reading, bad, good, mapped, after, closed, count_of, called, enough, formula_at, climb_at, operand_at, arguments_at, formula_of}
use Rattle.skimming.proofs.Grammar.{by_found}
use Rattle.order.proofs.Laws.{Every}
use Rattle.laws.specs.Laws.{words}
use Rattle.run_laws.proofs.Proper.{Bytes, take_bytes, drop_bytes, ProperFormula, ProperArguments}

-- ---- tokens

abbrev pub ProperToken : Token → Type 0
ProperToken EndOfLine = Unit {0}
ProperToken (Keyword w) = Unit {0}
ProperToken Not = Unit {0}
ProperToken (Infix op) = Unit {0}
ProperToken (Call f) = Unit {0}
ProperToken (Named v) = Unit {0}
ProperToken (Number n) = n < words
ProperToken (Hexadecimal n) = n < words
ProperToken (LineOnly l) = Unit {0}
ProperToken (Quoted q) = Unit {0}
ProperToken (Symbol s) = Unit {0}
ProperToken Unreadable = Unit {0}

-- what the tables hold is no number
abbrev no_number : Token → Bool
no_number EndOfLine = true
no_number (Keyword w) = true
no_number Not = true
no_number (Infix op) = true
no_number (Call f) = true
no_number (Named v) = true
no_number (Number n) = false
no_number (Hexadecimal n) = false
no_number (LineOnly l) = true
no_number (Quoted q) = true
no_number (Symbol s) = true
no_number Unreadable = true

table_proper : (t : Token) → no_number t ≡ true → ProperToken t
table_proper EndOfLine e = tt
table_proper (Keyword w) e = tt
table_proper Not e = tt
table_proper (Infix op) e = tt
table_proper (Call f) e = tt
table_proper (Named v) e = tt
table_proper (Number n) e = absurd (false≢true e)
table_proper (Hexadecimal n) e = absurd (false≢true e)
table_proper (LineOnly l) e = tt
table_proper (Quoted q) e = tt
table_proper (Symbol s) e = tt
table_proper Unreadable e = tt

abbrev no_number_word : WordFound → Bool
no_number_word (Plain t) = no_number t
no_number_word (Dollared t) = no_number t
no_number_word Remark = true
no_number_word Items = true
no_number_word Free = true

abbrev no_number_sign : Option Token → Bool
no_number_sign (Some t) = no_number t
no_number_sign None = true

marked_proper : (f : WordFound) (m : Mark) (i n end : ℕ) → no_number_word f ≡ true → ProperToken (marked f m i n end).token
marked_proper (Plain t) Bare i n end e = table_proper t e
marked_proper (Plain t) Dollar i n end e = tt
marked_proper (Plain t) Percent i n end e = tt
marked_proper (Dollared t) Dollar i n end e = table_proper t e
marked_proper (Dollared t) Percent i n end e = tt
marked_proper (Dollared t) Bare i n end e = tt
marked_proper Remark m i n end e = tt
marked_proper Items m i n end e = tt
marked_proper Free m i n end e = by_test (leb n name_width && leb i furthest) (λ t. rw t tt) (λ t. rw t tt)

word_proper : (end i : ℕ) (s : List ℕ) → ProperToken (word_token end i s).token
unfolding word_token reserved every
word_proper end i s =
    let w = leading (passes run.Word) s in
    marked_proper (word_of w) (mark_of (drop (length w) s)) i (length w) end (meaning_passes no_number_word reserved Free (map capital_of w) refl refl)

paired_proper : (p one : Option Token) (i : ℕ) → no_number_sign p ≡ true → no_number_sign one ≡ true → ProperToken (paired p one i).token
paired_proper (Some t) one i e f = table_proper t e
paired_proper None (Some t) i e f = table_proper t f
paired_proper None None i e f = tt

sign_proper : (i : ℕ) (s : List ℕ) → ProperToken (sign_token i s).token
unfolding sign_token signs pairs every
sign_proper i s =
    paired_proper (pair_of (get_or s 0 0) (get_or s 1 0)) (sign_of (get_or s 0 0)) i
    (meaning_passes no_number_sign pairs None (get_or s 0 0 ∷ get_or s 1 0 ∷ []) refl refl) (meaning_passes no_number_sign signs None (get_or s 0 0 ∷ []) refl refl)

number_proper : (i : ℕ) (s : List ℕ) → ProperToken (number_token i s).token
unfolding number_token
number_proper i s =
    by_test (leb (leading_value s) 32767) (λ e. rw e (omega (arith, leb-true (leading_value s) 32767 e))) (λ e. rw e
    (by_test (leb (leading_value s) largest_line_number) (λ f. rw f tt) (λ f. rw f tt)))

-- four hexadecimal digits at most
hex_small : (b : ℕ) → is_hex b ≡ true → hex_digit b < 16
unfolding hex_digit is_digit
hex_small b h = by_size (less 57 b)
  where
    by_size : (57 < b) ⊎ (b ≤ 57) → hex_digit b < 16
    by_size (inl l) = let t = hex_high b h l in rw (hex_letter b h l) (omega arith)
    by_size (inr l) = rw (hex_low b h l) (omega arith)

abbrev AllHex : List ℕ → Type 0
AllHex s = Every (λ b. is_hex b ≡ true) s

leading_hex : (s : List ℕ) → AllHex (leading is_hex s)
unfolding leading
leading_hex [] = tt
leading_hex (b ∷ s) = by_test (is_hex b) (λ e. rw e (e, leading_hex s)) (λ e. rw e tt)

hex_from_lem : (s : List ℕ) → AllHex s → length s ≤ 4 → hex_from 0 s < words
unfolding hex_from
hex_from_lem [] h k = omega arith
hex_from_lem (a ∷ []) h k = omega (arith, hex_small a h.0)
hex_from_lem (a ∷ b ∷ []) h k = omega (arith, hex_small a h.0, hex_small b h.1.0)
hex_from_lem (a ∷ b ∷ c ∷ []) h k = omega (arith, hex_small a h.0, hex_small b h.1.0, hex_small c h.1.1.0)
hex_from_lem (a ∷ b ∷ c ∷ d ∷ []) h k =
    omega (arith, hex_small a h.0, hex_small b h.1.0, hex_small c h.1.1.0, hex_small d h.1.1.1.0)
hex_from_lem (a ∷ b ∷ c ∷ d ∷ e ∷ s) h k = absurd (omega arith)

hex_proper : (i : ℕ) (s : List ℕ) → ProperToken (hex_token i s).token
unfolding hex_token
hex_proper i s =
    let digits = leading is_hex (drop 2 s) in
    by_test (is "H" (capital_of (get_or s 1 0))) (λ e. rw e
    (by_test (leb 1 (length digits) && leb (length digits) 4)
    (λ f. let t = both (leb 1 (length digits)) (leb (length digits) 4) f in
    rw f (hex_from_lem digits (leading_hex (drop 2 s)) (leb-true (length digits) 4 t.1)))
    (λ f. rw f tt))) (λ e. rw e tt)

text_proper : (i : ℕ) (s : List ℕ) → ProperToken (text_token i s).token
unfolding text_token
text_proper i s =
    let n = length (leading (passes run.Unquoted) (drop 1 s)) in
    by_test (ltb (1 + n) (length s) && leb (i + 1 + n) furthest) (λ e. rw e tt) (λ e. rw e tt)

other_proper : (end i : ℕ) (s : List ℕ) → ProperToken (other_token end i s).token
other_proper end i s =
    by_test (is "'" (get_or s 0 0)) (λ e. rw e tt) (λ e. rw e (by_test (is "&" (get_or s 0 0)) (λ f. rw f (hex_proper i s)) (λ f. rw f tt)))

begun_proper : (c : ByteClass) (end i : ℕ) (s : List ℕ) → ProperToken (begun c end i s).token
begun_proper Letter end i s = word_proper end i s
begun_proper Digit end i s = number_proper i s
begun_proper Quote end i s = text_proper i s
begun_proper Sign end i s = sign_proper i s
begun_proper Other end i s = other_proper end i s
begun_proper Blank end i s = tt

from_proper : (end i : ℕ) (s : List ℕ) → ProperToken (token_from end i s).token
from_proper end i [] = tt
from_proper end i (b ∷ s) = begun_proper (class_of b) end i (b ∷ s)

pub token_proper : (s : List ℕ) (at : Place) → ProperToken (token_at s at).token
unfolding token_at
token_proper s at = from_proper (length s) (at.0 + blanks_of (drop at.0 s)) (drop (at.0 + blanks_of (drop at.0 s)) s)

-- ---- formulas

-- and the token that follows
abbrev pub ProperReading : Reading → Type 0
ProperReading bad = Unit {0}
ProperReading (good f u) = ProperFormula f × ProperToken u.token

mapped_proper : (make : Formula → Formula) (x : Reading) → ((f : Formula) → ProperFormula f → ProperFormula (make f)) → ProperReading x
    → ProperReading (mapped make x)
mapped_proper make bad h k = tt
mapped_proper make (good f u) h k = (h f k.0, k.1)

closed_proper : (s : List ℕ) (x : Reading) → ProperReading x → ProperReading (closed s x)
unfolding ProperFormula
closed_proper s bad h = tt
closed_proper s (good f u) h = by_test (is_symbol Close u.token) (λ e. rw e (h.0, token_proper s u.next)) (λ e. rw e tt)

called_proper : (f : Function) (a : Arguments) (u : Scanned) → ProperArguments a → ProperToken u.token → ProperReading (called f a u)
unfolding ProperFormula
called_proper f a u h k = by_test (takes f (count_of a)) (λ e. rw e (h, k)) (λ e. rw e tt)

-- of a line of bytes, at most 255
module _ (s : List ℕ) (short : length s ≤ longest_string) (plain : Bytes s) where
  mutual
    unfolding formula_at ProperFormula

    formula_at_lem : (n level : ℕ) (t : Scanned) → ProperToken t.token → ProperReading (formula_at n s level t)
    formula_at_lem zero level t p = tt
    formula_at_lem (suc n) level t p = climb_at_lem n level (operand_at n s level t.token t.next) (operand_at_lem n level t.token t.next p)

    climb_at_lem : (n level : ℕ) (x : Reading) → ProperReading x → ProperReading (climb_at n s level x)
    climb_at_lem zero level x h = tt
    climb_at_lem (suc n) level bad h = tt
    climb_at_lem (suc n) level (good f u) h =
        by_found (tight_operator level u.token)
        (λ op e.
        let y = formula_at n s (right_level op) (after s u) in
        rw e (climb_at_lem n level (mapped (two_sided op f) y)
        (mapped_proper (two_sided op f) y (λ g k. (h.0, k)) (formula_at_lem n (right_level op) (after s u) (token_proper s u.next)))))
        (λ e. rw e h)

    operand_at_lem : (n level : ℕ) (t : Token) (next : Place) → ProperToken t → ProperReading (operand_at n s level t next)
    operand_at_lem zero level t next p = tt
    operand_at_lem (suc n) level (Number v) next p = (p, token_proper s next)
    operand_at_lem (suc n) level (Hexadecimal v) next p = (p, token_proper s next)
    operand_at_lem (suc n) level (Named v) next p = (tt, token_proper s next)
    operand_at_lem (suc n) level (Quoted q) next p =
        let from = drop q.at s in
        ((omega (arith, length-take q.len from, length-drop q.at s), take_bytes q.len from (drop_bytes q.at s plain)), token_proper s next)
    operand_at_lem (suc n) level (Symbol Open) next p = closed_proper s (formula_at n s 0 (token_at s next)) (formula_at_lem n 0 (token_at s next) (token_proper s next))
    operand_at_lem (suc n) level (Symbol Close) next p = tt
    operand_at_lem (suc n) level (Symbol Comma) next p = tt
    operand_at_lem (suc n) level (Symbol Semicolon) next p = tt
    operand_at_lem (suc n) level (Symbol Colon) next p = tt
    operand_at_lem (suc n) level (Symbol Question) next p = tt
    operand_at_lem (suc n) level (Symbol Equal) next p = tt
    operand_at_lem (suc n) level (Symbol Minus) next p =
        let u = token_at s next in
        by_test (minus_stands level)
        (λ e. rw e (mapped_proper minus (operand_at n s tightest u.token u.next) (λ f k. k) (operand_at_lem n tightest u.token u.next (token_proper s next))))
        (λ e. rw e tt)
    operand_at_lem (suc n) level Not next p =
        by_test (not_stands level)
        (λ e. rw e (mapped_proper complement (formula_at n s not_level (token_at s next)) (λ f k. k) (formula_at_lem n not_level (token_at s next) (token_proper s next))))
        (λ e. rw e tt)
    operand_at_lem (suc n) level (Call f) next p =
        let u = token_at s next in
        by_test (is_symbol Open u.token)
        (λ e. rw e (arguments_at_lem n f none (formula_at n s 0 (after s u)) tt (formula_at_lem n 0 (after s u) (token_proper s u.next))))
        (λ e. rw e tt)
    operand_at_lem (suc n) level EndOfLine next p = tt
    operand_at_lem (suc n) level (Keyword v) next p = tt
    operand_at_lem (suc n) level (Infix op) next p = tt
    operand_at_lem (suc n) level (LineOnly v) next p = tt
    operand_at_lem (suc n) level Unreadable next p = tt

    arguments_at_lem : (n : ℕ) (f : Function) (a : Arguments) (x : Reading) → ProperArguments a → ProperReading x → ProperReading (arguments_at n s f a x)
    arguments_at_lem zero f a x h k = tt
    arguments_at_lem (suc n) f a bad h k = tt
    arguments_at_lem (suc n) f a (good x u) h k =
        by_test (is_symbol Comma u.token)
        (λ e. rw e (arguments_at_lem n f (also a x) (formula_at n s 0 (after s u)) (h, k.0) (formula_at_lem n 0 (after s u) (token_proper s u.next))))
        λ e. rw e (by_test (is_symbol Close u.token)
        (λ g. rw g (called_proper f (also a x) (after s u) (h, k.0) (token_proper s u.next)))
        (λ g. rw g tt))

  -- what begins with a proper token
  pub formula_proper : (t : Scanned) → ProperToken t.token → {f : Formula} {u : Scanned} → formula_of s t ≡ good f u
      → ProperFormula f × ProperToken u.token
  unfolding formula_of
  formula_proper t p e = rw e at (formula_at_lem (enough s) 0 t p)
